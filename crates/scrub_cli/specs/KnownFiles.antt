-- What is known of a raw image and of a map before they are opened.
use Rattle.std.specs.Prelude.{◌≡◌, ◌≤◌, ◌^◌, ℕ, Bool, true, List, Option, None}
use Rattle.scrub_disk.specs.Limits.{max_extent_bytes}

-- what is known of a raw image: its bytes, if they are, whether a read may fail that asks at an offset for so many bytes,
-- how many reads fail at most, and whether it may fail to open
pub record KnownRaw : Type 0 where
  pub bytes : Option (List ℕ)
  pub fails : ℕ → ℕ → Bool
  pub most_failures : ℕ
  pub fails_to_open : Bool

-- a raw image that was opened is one of which this is known, and at most as many reads of it were made as an extent has bytes
pub record IsKnownAs {R : Type 0} (bytes : R → Option (List ℕ)) (fails : R → ℕ → ℕ → Bool) (most_failures reads : R → ℕ) (known : KnownRaw)
    (raw : R) : Type 0 where
  pub same_bytes : bytes raw ≡ known.bytes
  pub same_fails : fails raw ≡ known.fails
  pub same_bound : most_failures raw ≡ known.most_failures
  pub few_reads : reads raw ≤ max_extent_bytes

-- what is known of a file: no bytes, any of its reads may fail, and it may fail to open
abbrev pub image_file : KnownRaw
image_file = record { bytes = None; fails = λ offset count. true; most_failures = 2 ^ 70; fails_to_open = true }

-- what is known of a map: its text, if it is, and whether it may fail to open or to be read
pub record KnownMap : Type 0 where
  pub text : Option (List ℕ)
  pub fails_to_open : Bool

-- what is known of the map under each name
abbrev pub KnownMaps : Type 0
KnownMaps = List ℕ → KnownMap

-- what is known of maps in files: no text, and each may fail to open or to be read
abbrev pub map_file : KnownMaps
map_file name = record { text = None; fails_to_open = true }
