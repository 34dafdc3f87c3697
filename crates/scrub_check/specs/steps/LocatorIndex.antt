-- What the named locators say of places and extents, sorted by the code, and what follows for an extent.
use Rattle.std.specs.Prelude.{◌++◌, ◌∷◌, [], ℕ, not, Option, Some, None, List, map}
use Rattle.std.specs.declared.cmp.Ordering.{Ordering}
use Rattle.std.specs.Ordering.{nat_cmp, ordering_then}
use Rattle.std.specs.List.{filter}
use Rattle.std.specs.List.Sorted.{IsPermutation}
use Rattle.scrub_disk.specs.declared.geometry.Geometry.{Geometry}
use Rattle.scrub_scan.specs.Scanned.{Scanned}
use Rattle.scrub_check.specs.declared.statuses.checked.Checked.{Checked}
use Rattle.scrub_check.specs.declared.lists.locator_index.LocatorIndex.{LocatorIndex}
use Rattle.scrub_check.specs.Checked.{is_sound}
use Rattle.scrub_check.specs.steps.SoundPlaces.{AreSoundPlaces}
use Rattle.scrub_check.specs.Candidates.{CandidateValue, candidate_of, is_reclaimable}

-- the extents of the checked locators that aren't sound, each as often as it is named, in some order
abbrev pub AreBarredExtents : List Checked → List ℕ → Type 0
AreBarredExtents checked extents = IsPermutation (map (λ c. c.locator.extent) (filter (λ c. not (is_sound c.status)) checked)) extents

-- the starts of the sound ones of these locators, and the extents of the others
pub record IsLocatorIndex (checked : List Checked) (v : LocatorIndex) : Type 0 where
  pub sound : AreSoundPlaces checked v.sound
  pub barred : AreBarredExtents checked v.barred

-- those of the scanned extents that may be reclaimed, as candidates, in their order
abbrev pub reclaimable : Geometry → List Scanned → List Checked → List CandidateValue
reclaimable g all checked = map (candidate_of checked) (filter (is_reclaimable g checked) all)

-- the extents that may be reclaimed, if the sizes of the disk are given; else none
abbrev pub reclaimable_by : Option Geometry → List Scanned → List Checked → List CandidateValue
reclaimable_by None all checked = []
reclaimable_by (Some g) all checked = reclaimable g all checked

-- the candidates, and after them the extent, if the sizes are given and it may be reclaimed
abbrev pub with_reclaimable : Option Geometry → List Checked → List CandidateValue → Scanned → List CandidateValue
with_reclaimable g checked candidates f = candidates ++ reclaimable_by g (f ∷ []) checked

-- the order of candidates: by what they free, falling, and then by number
abbrev pub by_free : CandidateValue → CandidateValue → Ordering
by_free a b = ordering_then (nat_cmp b.free a.free) (nat_cmp a.extent b.extent)
