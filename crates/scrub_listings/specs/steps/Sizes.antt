-- Steps of listing records and lost ranges: one list of both, and whether they are clean.
use Rattle.std.specs.Prelude.{◌≡◌, ◌≢◌, ◌<◌, ◌≤◌, ◌↔◌, ℕ, List, [], All, AllPairs, Contains, length, slice_index_or}
use Rattle.scrub_super.specs.declared.unknown_sizes.FoundRecord.{FoundRecord}
use Rattle.scrub_super.specs.declared.unknown_sizes.LostBytes.{LostBytes}
use Rattle.scrub_listings.specs.declared.sizes_listing.lines.SizesLine.{SizesLine}
use Rattle.scrub_listings.specs.declared.sizes_listing.lines.SizesLine.TheVariants.{Record, Lost}
use Rattle.scrub_listings.specs.declared.sizes_listing.SizesFound.{SizesFound}
use Rattle.scrub_listings.specs.declared.sizes_listing.SizesFound.TheVariants.{Certain, Uncertain, NotFound}
use Rattle.scrub_listings.specs.Sizes.{line_start}

-- both lists rise, and no record begins where a lost range does
pub record CanMerge (records : List FoundRecord) (ranges : List LostBytes) : Type 0 where
  pub records_rise : AllPairs (λ a b. a.offset < b.offset) records
  pub ranges_rise : AllPairs (λ a b. a.from < b.from) ranges
  pub apart : (r : FoundRecord) (l : LostBytes) → Contains records r → Contains ranges l → r.offset ≢ l.from

-- the lines have the elements of both lists, by ascending start
pub record AreInOrder (records : List FoundRecord) (ranges : List LostBytes) (lines : List SizesLine) : Type 0 where
  pub rising : AllPairs (λ a b. line_start a < line_start b) lines
  pub records_are : (r : FoundRecord) → Contains lines (Record r) ↔ Contains records r
  pub ranges_are : (l : LostBytes) → Contains lines (Lost l) ↔ Contains ranges l

-- the line is of what begins first among all but the first r records and the first l ranges
abbrev pub IsNextLine : List FoundRecord → List LostBytes → ℕ → ℕ → SizesLine → Type 0
IsNextLine records ranges r l (Record x) =
    (r < length records) × (x ≡ slice_index_or records r x) × ((d : LostBytes) → l < length ranges → x.offset < (slice_index_or ranges l d).from)
IsNextLine records ranges r l (Lost x) =
    (l < length ranges) × (x ≡ slice_index_or ranges l x) × ((d : FoundRecord) → r < length records → x.from ≤ (slice_index_or records r d).offset)

-- how many records a line has: one or none
abbrev pub record_count : SizesLine → ℕ
record_count (Record x) = 1
record_count (Lost x) = 0

-- there is a record, all have the same sizes, and there is no lost range
pub record AreCleanLists (records : List FoundRecord) (ranges : List LostBytes) : Type 0 where
  pub some : 0 < length records
  pub same_sizes : (r s : FoundRecord) → Contains records r → Contains records s → r.geometry ≡ s.geometry
  pub nothing_lost : ranges ≡ []

-- there is a record, and there is a lost range
pub record AreUncertainLists (records : List FoundRecord) (ranges : List LostBytes) : Type 0 where
  pub some : 0 < length records
  pub something_lost : 0 < length ranges

-- what the lists say of the sizes
abbrev pub AreSizesIn : List FoundRecord → List LostBytes → SizesFound → Type 0
AreSizesIn records ranges (Certain g) = AreCleanLists records ranges × All (λ r. r.geometry ≡ g) records
AreSizesIn records ranges Uncertain = AreUncertainLists records ranges
AreSizesIn records ranges NotFound = ¬ AreCleanLists records ranges × ¬ AreUncertainLists records ranges
