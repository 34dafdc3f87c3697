-- The lines of the superblock records in raw bytes, of any sizes, and of the lost bytes.
use Rattle.std.specs.Prelude.{◌≡◌, ◌<◌, ◌↔◌, ◌++◌, ◌∷◌, [], ℕ, List, Bool, AllPairs, Contains, IfSome, IsTrue, Option, codes}
use Rattle.std.specs.Fmt.{decimal}
use Rattle.std.specs.List.{flat_map}
use Rattle.scrub_disk.specs.declared.geometry.Geometry.{Geometry}
use Rattle.scrub_scan.specs.Line.{spaced}
use Rattle.scrub_super.specs.declared.unknown_sizes.FoundRecord.{FoundRecord}
use Rattle.scrub_super.specs.declared.unknown_sizes.LostBytes.{LostBytes}
use Rattle.scrub_super.specs.Pages.{magic_of}
use Rattle.scrub_super.specs.Blocks.{byte_left, IsMarked, LosesBlocks}
use Rattle.scrub_super.specs.UnknownSizes.{IsFoundRecord, AreLostBytes}
use Rattle.scrub_listings.specs.declared.sizes_listing.lines.SizesLine.{SizesLine}
use Rattle.scrub_listings.specs.declared.sizes_listing.lines.SizesLine.TheVariants.{Record, Lost}
use Rattle.scrub_listings.specs.declared.sizes_listing.SizesFound.{SizesFound}
use Rattle.scrub_listings.specs.declared.sizes_listing.SizesFound.TheVariants.{Certain, Uncertain, NotFound}

-- the text of a record: `OFFSET KIND GENERATION PAGE PAGES EXTENTS`
abbrev pub record_text : FoundRecord → List ℕ
record_text r =
    decimal r.offset ++ spaced (magic_of r.kind) ++ spaced (decimal r.generation)
    ++ spaced (decimal r.geometry.page) ++ spaced (decimal r.geometry.pages) ++ spaced (decimal r.geometry.extents)

-- the text of a record, or of lost bytes: `lost FROM TO`
abbrev pub size_text : SizesLine → List ℕ
size_text (Record r) = record_text r
size_text (Lost l) = codes "lost" ++ spaced (decimal l.from) ++ spaced (decimal l.to)

-- the line of a record or of lost bytes, with its line feed
abbrev pub size_line : SizesLine → List ℕ
size_line line = size_text line ++ 10 ∷ []

-- the lines of some records and lost bytes, in their order
abbrev pub size_lines : List SizesLine → List ℕ
size_lines = flat_map size_line

-- the start of a line's record or lost bytes
abbrev pub line_start : SizesLine → ℕ
line_start (Record r) = r.offset
line_start (Lost l) = l.from

-- the lines are of all records and all lost bytes, by ascending start
pub record AreSizesInOrder (bytes : List ℕ) (lost : List Bool) (lines : List SizesLine) : Type 0 where
  pub rising : AllPairs (λ a b. line_start a < line_start b) lines
  pub records : (r : FoundRecord) → Contains lines (Record r) ↔ IsFoundRecord (byte_left bytes lost) r
  pub ranges : (l : LostBytes) → Contains lines (Lost l) ↔ AreLostBytes lost l

-- the text is the lines of raw bytes with these lost blocks
pub record AreSizesLines (bytes : List ℕ) (lost : List Bool) (text : List ℕ) : Type 0 where
  pub lines : List SizesLine
  pub in_order : AreSizesInOrder bytes lost lines
  pub text_is : text ≡ size_lines lines

-- in the front, the bytes below 2^26, there is a record, all records have the same sizes, and nothing is lost
pub record IsCleanFront (bytes : List ℕ) (lost : List Bool) : Type 0 where
  pub some : (r : FoundRecord) × IsFoundRecord (byte_left bytes lost) r
  pub same_sizes : (r s : FoundRecord) →
      IsFoundRecord (byte_left bytes lost) r → IsFoundRecord (byte_left bytes lost) s → r.geometry ≡ s.geometry
  pub nothing_lost : (n : ℕ) → ¬ IsMarked lost n

-- the text and the verdict whether it is clean are those of raw bytes, for some lost blocks that fit the bytes that are
-- lacking, the reads that may fail, and this many failures
pub record IsSizesListing (bytes : List ℕ) (lacking : ℕ → Bool) (fails : ℕ → ℕ → Bool) (failures : ℕ) (text : List ℕ) (clean : Bool) : Type 0 where
  pub lost : List Bool
  pub loses : LosesBlocks bytes lacking fails failures lost
  pub lines : AreSizesLines bytes lost text
  pub is_clean : IsTrue clean ↔ IsCleanFront bytes lost

-- the listing of sizes of some bytes: those of the raw image if they are known, or else any
pub record IsSizesListingOf (raw : Option (List ℕ)) (lacking : ℕ → Bool) (fails : ℕ → ℕ → Bool) (failures : ℕ) (text : List ℕ) (clean : Bool) : Type 0 where
  pub bytes : List ℕ
  pub known : IfSome raw (λ all. bytes ≡ all)
  pub listing : IsSizesListing bytes lacking fails failures text clean

-- a disk has these sizes, by raw bytes with these lost blocks: there is a record, all records have them, and nothing is lost
pub record AreSizesBy (bytes : List ℕ) (lost : List Bool) (g : Geometry) : Type 0 where
  pub clean : IsCleanFront bytes lost
  pub each : (r : FoundRecord) → IsFoundRecord (byte_left bytes lost) r → r.geometry ≡ g

-- the sizes of a disk aren't certain, by raw bytes with these lost blocks: there is a record, but something is lost
pub record IsUncertainFront (bytes : List ℕ) (lost : List Bool) : Type 0 where
  pub some : (r : FoundRecord) × IsFoundRecord (byte_left bytes lost) r
  pub something_lost : (n : ℕ) × IsMarked lost n

-- whether the sizes of a disk are certain, uncertain, or neither: not found, since there is no record, or since nothing is lost and
-- not all records have the same sizes
abbrev pub IsFoundInFront : List ℕ → List Bool → SizesFound → Type 0
IsFoundInFront bytes lost (Certain g) = AreSizesBy bytes lost g
IsFoundInFront bytes lost Uncertain = IsUncertainFront bytes lost
IsFoundInFront bytes lost NotFound = ¬ IsCleanFront bytes lost × ¬ IsUncertainFront bytes lost

-- what is found of the sizes of a disk by some bytes: those of the raw image if they are known, or else any; for some lost blocks
-- that fit the bytes that are lacking, the reads that may fail, and this many failures
pub record AreSizesOf (raw : Option (List ℕ)) (lacking : ℕ → Bool) (fails : ℕ → ℕ → Bool) (failures : ℕ) (found : SizesFound) : Type 0 where
  pub bytes : List ℕ
  pub known : IfSome raw (λ all. bytes ≡ all)
  pub lost : List Bool
  pub loses : LosesBlocks bytes lacking fails failures lost
  pub sizes : IsFoundInFront bytes lost found
