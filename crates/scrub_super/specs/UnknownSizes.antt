-- The superblock records of raw bytes, each judged by its own sizes, and the bytes that are lost.
use Rattle.std.specs.Prelude.{◌≡◌, ◌<◌, ◌≤◌, ◌+◌, ◌*◌, ◌^◌, ◌%◌, ◌↔◌, ℕ, List, Bool, Option, AllPairs, Contains, IfSome}
use Rattle.std.specs.Prelude.{length as len}
use Rattle.scrub_disk.specs.declared.geometry.Geometry.{Geometry}
use Rattle.scrub_disk.specs.Image.{AreBytesAt, extent_bytes}
use Rattle.scrub_super.specs.declared.unknown_sizes.FoundRecord.{FoundRecord}
use Rattle.scrub_super.specs.declared.unknown_sizes.front.Front.{Front}
use Rattle.scrub_super.specs.declared.unknown_sizes.LostBytes.{LostBytes}
use Rattle.scrub_super.specs.Contents.{Contents}
use Rattle.scrub_super.specs.Record.{AreContents, record_bytes}
use Rattle.scrub_super.specs.Pages.{kind_of}
use Rattle.scrub_super.specs.Blocks.{byte_left, IsLostRun, LosesBlocks}

-- the record of these contents is at an offset, for a disk of the record's own sizes: the offset is a multiple of 64
-- and of the page size, and the record ends in extent 0
pub record StandsByOwnSizes (at : ℕ → Option ℕ) (offset : ℕ) (g : Geometry) (c : Contents) : Type 0 where
  pub step : offset % 64 ≡ 0
  pub page_bound : offset % g.page ≡ 0
  pub within : offset + len (record_bytes g c) ≤ extent_bytes g
  pub contents : AreContents g c
  pub stands : AreBytesAt at offset (record_bytes g c)

-- a record is at this offset, for a disk of its own sizes, with this kind and generation
abbrev pub IsFoundRecord : (ℕ → Option ℕ) → FoundRecord → Type 0
IsFoundRecord at r = (c : Contents) × StandsByOwnSizes at r.offset r.geometry c × (r.kind ≡ kind_of c) × (r.generation ≡ c.generation)

-- these are all records at any offset, for disks of their own sizes, by ascending offset
pub record AreFoundRecords (at : ℕ → Option ℕ) (records : List FoundRecord) : Type 0 where
  pub rising : AllPairs (λ a b. a.offset < b.offset) records
  pub exact : (r : FoundRecord) → Contains records r ↔ IsFoundRecord at r

-- the range has the bytes of a longest run of lost blocks
abbrev pub AreLostBytes : List Bool → LostBytes → Type 0
AreLostBytes lost l = (first stop : ℕ) × IsLostRun lost first stop × (l.from ≡ first * 512) × (l.to ≡ stop * 512)

-- these are all ranges of lost bytes, ascending
pub record AreLostRanges (lost : List Bool) (ranges : List LostBytes) : Type 0 where
  pub rising : AllPairs (λ a b. a.from < b.from) ranges
  pub exact : (l : LostBytes) → Contains ranges l ↔ AreLostBytes lost l

-- all superblock records of raw bytes, and all lost bytes, if these blocks are lost
pub record AreFoundByOwnSizes (bytes : List ℕ) (lost : List Bool) (records : List FoundRecord) (ranges : List LostBytes) : Type 0 where
  pub records_are : AreFoundRecords (byte_left bytes lost) records
  pub ranges_are : AreLostRanges lost ranges

-- all superblock records of raw bytes, and all lost bytes, for some lost blocks that fit the bytes that are lacking, the
-- reads that may fail, and this number of failures
pub record AreFoundWith (bytes : List ℕ) (lacking : ℕ → Bool) (fails : ℕ → ℕ → Bool) (failures : ℕ) (records : List FoundRecord) (ranges : List LostBytes) : Type 0 where
  pub lost : List Bool
  pub loses : LosesBlocks bytes lacking fails failures lost
  pub found : AreFoundByOwnSizes bytes lost records ranges

-- all superblock records and lost bytes of some bytes: those of the raw image if they are known, or else any
pub record AreFoundInSome (raw : Option (List ℕ)) (lacking : ℕ → Bool) (fails : ℕ → ℕ → Bool) (failures : ℕ)
    (records : List FoundRecord) (ranges : List LostBytes) : Type 0 where
  pub bytes : List ℕ
  pub known : IfSome raw (λ text. bytes ≡ text)
  pub found : AreFoundWith bytes lacking fails failures records ranges

-- ---- the front of a raw image

-- the bytes that were read have the bytes below byte 2^26 of some bytes, but for blocks that are lost; these fit the bytes that
-- are lacking, the reads that may fail, and this number of failures. Those bytes are the raw image's if they are known, or else any
pub record IsFrontBy (raw : Option (List ℕ)) (lacking : ℕ → Bool) (fails : ℕ → ℕ → Bool) (failures : ℕ)
    (read : List ℕ) (lost : List Bool) : Type 0 where
  pub bytes : List ℕ
  pub known : IfSome raw (λ text. bytes ≡ text)
  pub loses : LosesBlocks bytes lacking fails failures lost
  pub same : (i : ℕ) → i < 2 ^ 26 → byte_left read lost i ≡ byte_left bytes lost i

-- the same of a front
abbrev pub IsFrontOf : Option (List ℕ) → (ℕ → Bool) → (ℕ → ℕ → Bool) → ℕ → Front → Type 0
IsFrontOf raw lacking fails failures front = IsFrontBy raw lacking fails failures front.bytes.items front.lost.items

-- how many bytes a front has
abbrev pub front_size : Front → ℕ
front_size front = len front.bytes.items
