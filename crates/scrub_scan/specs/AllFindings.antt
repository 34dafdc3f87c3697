-- The findings of all planned extents, in ascending order.
use Rattle.std.specs.Prelude.{◌≡◌, ◌<◌, ◌==◌, ℕ, List, [], All, map, Some, Option, MatchOption, option_map, length, slice_index}
use Rattle.std.specs.List.{find}
use Rattle.std.specs.List.Sorted.{IsStrictlyIncreasing}
use Rattle.scrub_disk.specs.Image.{Image}
use Rattle.scrub_super.specs.Plan.{PlanValue, pointer_of}
use Rattle.scrub_scan.specs.declared.findings.Findings.{Findings}
use Rattle.scrub_scan.specs.Findings.{IsFindings}
use Rattle.scrub_scan.specs.Scanned.{Scanned}

-- what was found on a disk: the extents that were scanned, and the source of their pages, or None if nothing was
-- scanned
pub record ScannedDisk (D : Type 0) : Type 0 where
  pub source : Option D
  pub extents : List Scanned

-- the numbers of the scanned extents
abbrev pub extent_numbers : List Scanned → List ℕ
extent_numbers all = map (λ f. f.extent) all

-- extent e is the i-th that was scanned
abbrev pub IsPlaceOf : List Scanned → ℕ → ℕ → Type 0
IsPlaceOf all e i = (i < length all) × (slice_index (extent_numbers all) i ≡ e)

-- what was found in extent e, and under which pointer, or None if it wasn't scanned
abbrev pub entry_of : List Scanned → ℕ → Option Scanned
entry_of all e = find (λ f. f.extent == e) all

-- the findings of extent e, or None if it wasn't scanned
abbrev pub findings_in : List Scanned → ℕ → Option Findings
findings_in all e = option_map (λ f. f.findings) (entry_of all e)

-- each scanned extent has what the image holds there under its pointer
abbrev pub HaveFindings : Image → List Scanned → Type 0
HaveFindings image all = All (λ f. IsFindings image f.extent f.pointer f.findings) all

-- the source of what was scanned has this image, or nothing was scanned
abbrev pub IsOfImage : {D : Type 0} → (D → Image) → ScannedDisk D → Image → Type 0
IsOfImage image_of all image = MatchOption all.source (all.extents ≡ []) (λ s. image_of s ≡ image)

-- the extents rise, and each has what the image of the source holds there
pub record AreScannedBy {D : Type 0} (image_of : D → Image) (all : ScannedDisk D) : Type 0 where
  pub rising : IsStrictlyIncreasing (extent_numbers all.extents)
  pub findings : MatchOption all.source (all.extents ≡ []) (λ s. HaveFindings (image_of s) all.extents)

-- the planned extents, ascending, each with what its image holds under the plan's write pointer
pub record AreAllFindings (image : Image) (plan : PlanValue) (all : List Scanned) : Type 0 where
  pub extents : map (λ f. f.extent) all ≡ plan.planned
  pub pointers : All (λ f. pointer_of plan f.extent ≡ Some f.pointer) all
  pub findings : All (λ f. IsFindings image f.extent f.pointer f.findings) all
