-- The findings of one reader, extent by extent.
use Rattle.std.proofs.Common.{◌≡◌, ◌<◌, ◌≤◌, ◌+◌, ◌-◌, ℕ, List, Some, false, not, arith, ◌∙◌, ap}
use Rattle.std.specs.List.{Contains, range_with_len}
use Rattle.std.proofs.lemmas.List.FromFn.{get_or-range_with_len, length-range_with_len}
use Rattle.list_facts.proofs.Elements.{Contains-filter}
use Rattle.scrub_disk.specs.Image.{Image, unreadable_pages}
use Rattle.scrub_super.specs.Planned.{is_in_use}
use Rattle.scrub_super.specs.Plan.{PlanValue, pointer_of}
use Rattle.scrub_scan.specs.declared.findings.Findings.{Findings}
use Rattle.scrub_scan.specs.Scanned.{Scanned}
use Rattle.scrub_scan.proofs.Entries.{findings_facts}
use Rattle.scrub_scan.specs.AllFindings.{extent_numbers, findings_in}
use Rattle.scrub_check.specs.WholeScan.{IsWholeScan}
use Rattle.scrub_check.specs.Status.{is_retired}

-- each extent in use is listed
pub each_listed : (image : Image) (plan : PlanValue) (all : List Scanned) (e : ℕ) → IsWholeScan image plan all →
    is_retired plan e ≡ false → 1 ≤ e → e < image.geometry.extents → Contains (extent_numbers all) e
each_listed image plan all e h in_use low high =
    let n : ℕ = image.geometry.extents - 1 in
    rw (h.findings.extents ∙ h.planned)
    (Contains-filter (is_in_use plan.retired) (range_with_len 1 n) e (ap not in_use)
    (e - 1, omega (arith, length-range_with_len 1 n, low, high), get_or-range_with_len 1 n (e - 1) e (omega (arith, low, high)) ∙ (let k : 1 + (e - 1) ≡ e = omega (arith, low) in k)))

-- and the unreadable pages that were found there are those of the image
pub pages_found : (image : Image) (plan : PlanValue) (all : List Scanned) (e w : ℕ) (found : Findings) (pages : List ℕ) →
    IsWholeScan image plan all → findings_in all e ≡ Some found → pointer_of plan e ≡ Some w → pages ≡ found.bad_pages →
    pages ≡ unreadable_pages image e
pages_found image plan all e w found pages h is at same = same ∙ (findings_facts image plan all e w found h.findings is at).bad_pages
