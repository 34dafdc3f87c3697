-- The sixty bytes of a locator: the fields in order, its three numbers in four big-endian bytes each.
use Rattle.std.specs.Prelude.{◌≡◌, ◌<◌, ◌^◌, ℕ, List, ◌++◌, length}
use Rattle.byteorder.specs.Endian.{big_bytes}
use Rattle.scrub_frame.specs.declared.locator.Locator.{Locator}

-- the bytes of a locator: extent, offset, length, UUID and digest
abbrev pub locator_bytes : Locator → List ℕ
locator_bytes l = big_bytes 4 l.extent ++ (big_bytes 4 l.offset ++ (big_bytes 4 l.length ++ (l.uuid ++ l.digest)))

-- each of the three numbers is below 2^32, and the UUID and the digest have their sizes, as in every value of the type
pub record IsLocator (l : Locator) : Type 0 where
  pub extent : l.extent < 2 ^ 32
  pub offset : l.offset < 2 ^ 32
  pub size : l.length < 2 ^ 32
  pub uuid : length l.uuid ≡ 16
  pub digest : length l.digest ≡ 32
