-- The bytes of a superblock record of either kind, and which contents have one. The first kind has `SSB1`, the
-- generation, the disk's sizes, the number of index runs, the write pointers, the locators of the runs, and the SHA-256
-- (FIPS 180-4) of all before it. The second kind begins with `SSB2` and lists retired extents too: their number follows
-- that of the runs, and they follow the write pointers. Numbers are big-endian.
use Rattle.std.specs.Prelude.{◌≡◌, ◌<◌, ◌≤◌, ◌+◌, ◌*◌, ◌^◌, ℕ, List, [], ◌++◌, All, IfSome, codes}
use Rattle.std.specs.Prelude.{length as len}
use Rattle.std.specs.List.{flat_map}
use Rattle.std.specs.Option.{option_map_or}
use Rattle.byteorder.specs.Endian.{big_bytes}
use Rattle.sha2.specs.Sha256.{sha256}
use Rattle.scrub_disk.specs.declared.geometry.Geometry.{Geometry}
use Rattle.scrub_frame.specs.Locator.{locator_bytes, IsLocator}
use Rattle.scrub_super.specs.Contents.{Contents, retired_in}
use Rattle.scrub_super.specs.Planned.{AreChunkExtents}

-- the record of these contents: the magic, the generation, the disk's sizes, the number of index runs and, if retired extents are
-- listed, that of these; then the write pointers, the retired extents, the locators, and the digest of all before it
abbrev pub record_bytes : Geometry → Contents → List ℕ
record_bytes g c =
    let body = codes (option_map_or (λ _. "SSB2") c.retired "SSB1") ++ big_bytes 8 c.generation
    ++ big_bytes 4 g.page ++ big_bytes 4 g.pages ++ big_bytes 4 g.extents
    ++ big_bytes 2 (len c.runs) ++ option_map_or (λ extents. big_bytes 2 (len extents)) c.retired []
    ++ flat_map (big_bytes 4) c.pointers ++ flat_map (big_bytes 4) (retired_in c) ++ flat_map locator_bytes c.runs in
    body ++ sha256 body

-- contents within the limits of a geometry, which a record can hold: one pointer for each extent but extent 0, none past
-- the extent's end, and at most 32 index runs
pub record AreContents (g : Geometry) (c : Contents) : Type 0 where
  pub generation : c.generation < 2 ^ 64
  pub pointer_count : len c.pointers + 1 ≡ g.extents
  pub pointers_within : All (λ pointer. pointer ≤ g.page * g.pages) c.pointers
  pub retired : IfSome c.retired (AreChunkExtents g.extents)
  pub run_count : len c.runs ≤ 32
  pub each_run : All IsLocator c.runs

-- the record of these contents, which keep the limits, is a prefix of the bytes
pub record BeginsWithRecord (g : Geometry) (bytes : List ℕ) (c : Contents) : Type 0 where
  pub contents : AreContents g c
  pub rest : List ℕ
  pub spelled : bytes ≡ record_bytes g c ++ rest
