-- Lists of extents of a disk, and which of them are scanned.
use Rattle.std.specs.Prelude.{◌<◌, ◌≤◌, ◌-◌, ◌==◌, ℕ, Bool, List, All, filter, not}
use Rattle.std.specs.List.{list_any, range_with_len}
use Rattle.std.specs.List.Sorted.{IsStrictlyIncreasing}

-- numbers of extents other than extent 0, strictly ascending, each less than the number of extents
pub record AreChunkExtents (extents : ℕ) (numbers : List ℕ) : Type 0 where
  pub rising : IsStrictlyIncreasing numbers
  pub from_one : All (λ e. 1 ≤ e) numbers
  pub below : All (λ e. e < extents) numbers

-- extents that can be planned
abbrev pub ArePlanned : ℕ → List ℕ → Type 0
ArePlanned extents planned = AreChunkExtents extents planned

-- extents that can be retired
abbrev pub AreRetired : ℕ → List ℕ → Type 0
AreRetired extents retired = AreChunkExtents extents retired

-- the extent isn't one of the retired ones
abbrev pub is_in_use : List ℕ → ℕ → Bool
is_in_use retired e = not (list_any (λ r. r == e) retired)

-- all extents except extent 0 and the retired ones, ascending
abbrev pub extents_in_use : ℕ → List ℕ → List ℕ
extents_in_use extents retired = filter (λ e. not (list_any (λ r. r == e) retired)) (range_with_len 1 (extents - 1))
