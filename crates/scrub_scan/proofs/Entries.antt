-- What is kept of an extent in a list whose extents rise.
use Rattle.std.proofs.Common.{◌≡◌, ◌==◌, ℕ, List, get_or, arith, refl, ◌∙◌, ap, Some, None, Option, option_map, slice_get}
use Rattle.std.specs.List.{find}
use Rattle.std.specs.List.Sorted.{IsStrictlyIncreasing}
use Rattle.std.proofs.lemmas.Bool.Decides.{nat_tests}
use Rattle.std.proofs.lemmas.Option.{none-some, slice_get_within, get_or_from_slice_get}
use Rattle.std.proofs.lemmas.List.Elements.{All-contains}
use Rattle.list_facts.proofs.Searches.{find_paired, find_passes, pairs_rise}
use Rattle.scrub_disk.specs.Image.{Image}
use Rattle.scrub_super.specs.Plan.{PlanValue, pointer_of}
use Rattle.scrub_scan.specs.declared.findings.Findings.{Findings}
use Rattle.scrub_scan.specs.Findings.{IsFindings}
use Rattle.scrub_scan.specs.Scanned.{Scanned}
use Rattle.scrub_scan.specs.AllFindings.{extent_numbers, entry_of, findings_in, AreAllFindings}

-- what is kept of the i-th extent is found by its number
pub entry_at : (all : List Scanned) → IsStrictlyIncreasing (extent_numbers all) → (i : ℕ) (f : Scanned) (e : ℕ) →
    slice_get all i ≡ Some f → f.extent ≡ e → entry_of all e ≡ Some f
entry_at all rising i f e is number =
    let there : get_or all i f ≡ f = get_or_from_slice_get all i f f is in
    let found : find (λ g. g.extent == (get_or all i f).extent) all ≡ Some (get_or all i f) =
    find_paired (λ g. g.extent) all (pairs_rise (λ g. g.extent) all rising) i f (slice_get_within all i f is) in
    rw (ap (λ g. g.extent) there ∙ number) at (found ∙ ap Some there)

-- what is kept of a planned extent has the plan's pointer, and is what the image has there
pub entry_facts : (image : Image) (plan : PlanValue) (all : List Scanned) (e : ℕ) (f : Scanned) →
    AreAllFindings image plan all → entry_of all e ≡ Some f →
    (f.extent ≡ e) × (pointer_of plan e ≡ Some f.pointer) × IsFindings image e f.pointer f.findings
entry_facts image plan all e f h found =
    let passes = find_passes (λ g. g.extent == e) all f found in
    let same : f.extent ≡ e = grind (arith, nat_tests, passes.0) in (
      same,
      rw same at (All-contains (λ (g : Scanned). pointer_of plan g.extent ≡ Some g.pointer) all f h.pointers passes.1),
      rw same at
          (All-contains (λ (g : Scanned). IsFindings image g.extent g.pointer g.findings) all f h.findings passes.1),
    )

-- the findings of a planned extent are what the image has there, under the plan's pointer
pub findings_facts : (image : Image) (plan : PlanValue) (all : List Scanned) (e w : ℕ) (found : Findings) →
    AreAllFindings image plan all → findings_in all e ≡ Some found → pointer_of plan e ≡ Some w →
    IsFindings image e w found
findings_facts image plan all e w found h is at = by (entry_of all e) refl is
  where
    by : (o : Option Scanned) → entry_of all e ≡ o → option_map (λ f. f.findings) o ≡ Some found →
        IsFindings image e w found
    by None entry there = absurd (none-some found there)
    by (Some f) entry there =
        let facts = entry_facts image plan all e f h entry in
        let pointer : f.pointer ≡ w = cc in
        let same : f.findings ≡ found = cc in
        rw (← pointer) (rw same at facts.2)
