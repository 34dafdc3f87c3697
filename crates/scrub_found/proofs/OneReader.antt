-- A choice has one plan, and a plan has one scan.
use Rattle.std.proofs.Common.{◌≡◌, ◌<◌, ℕ, Some, List, [], ◌∷◌, arith, refl, sym, ◌∙◌, ap}
use Rattle.std.proofs.Math.Path.{ap₂}
use Rattle.std.proofs.lemmas.Option.{same_Some}
use Rattle.std.specs.List.{All}
use Rattle.std.proofs.lemmas.List.Elements.{All-head, All-tail}
use Rattle.list_facts.proofs.Elements.{nil_has_no_first, same_behind_first, same_first}
use Rattle.scrub_disk.specs.Image.{Image}
use Rattle.scrub_super.specs.Chosen.{Choice}
use Rattle.scrub_super.specs.Plan.{PlanValue, plan_of, pointer_of}
use Rattle.scrub_scan.specs.declared.findings.Findings.{Findings}
use Rattle.scrub_scan.specs.AllFindings.{AreAllFindings, HaveFindings, extent_numbers}
use Rattle.scrub_scan.specs.Extent.{extent_of}
use Rattle.scrub_scan.specs.Findings.{IsFindings}
use Rattle.scrub_scan.specs.Scanned.{Scanned}
use Rattle.scrub_scan.proofs.Tilings.{one_tiling}

-- ---- one plan

-- Two plans that agree in each field are one plan.
pub same_plan : (p q : PlanValue) → p.geometry ≡ q.geometry → p.planned ≡ q.planned → p.retired ≡ q.retired →
    p.pointers ≡ q.pointers → p.runs ≡ q.runs → p.has_superblock ≡ q.has_superblock → p ≡ q
same_plan p q hg hp ht hw hr hs = λ i. record {
  geometry = hg i;
  planned = hp i;
  retired = ht i;
  pointers = hw i;
  runs = hr i;
  has_superblock = hs i;
}

-- A choice has at most one plan.
pub one_plan : (choice : Choice) (p q : PlanValue) → p ≡ plan_of choice → q ≡ plan_of choice → p ≡ q
one_plan choice p q x y = x ∙ sym y

-- ---- one reader

same_findings : (f g : Findings) → f.items ≡ g.items → f.tail_count ≡ g.tail_count → f.tail_first ≡ g.tail_first →
    f.bad_pages ≡ g.bad_pages → f ≡ g
same_findings f g hi hc hf hb = λ i. record { items = hi i; tail_count = hc i; tail_first = hf i; bad_pages = hb i }

one_findings : (image : Image) (e w : ℕ) (f g : Findings) → IsFindings image e w f → IsFindings image e w g → f ≡ g
one_findings image e w f g x y =
    let pos : 0 < image.geometry.page = omega (arith, image.geometry.page_least) in
    same_findings f g (one_tiling (extent_of image e w) f.items g.items pos x.tiled y.tiled)
    (x.tail_counted ∙ sym y.tail_counted) (x.tail_least ∙ sym y.tail_least) (x.bad_pages ∙ sym y.bad_pages)

same_scanned : (f g : Scanned) → f.extent ≡ g.extent → f.pointer ≡ g.pointer → f.findings ≡ g.findings → f ≡ g
same_scanned f g he hp hf = λ i. record { extent = he i; pointer = hp i; findings = hf i }

-- By the plan of an image, an extent has at most one write pointer and one record of findings.
pub one_scanned : (image : Image) (plan : PlanValue) (f g : Scanned) → f.extent ≡ g.extent →
    pointer_of plan f.extent ≡ Some f.pointer → pointer_of plan g.extent ≡ Some g.pointer →
    IsFindings image f.extent f.pointer f.findings → IsFindings image g.extent g.pointer g.findings → f ≡ g
one_scanned image plan f g he pf pg x y =
    let hp : f.pointer ≡ g.pointer = same_Some f.pointer g.pointer (sym pf ∙ ap (pointer_of plan) he ∙ pg) in
    let z : IsFindings image g.extent g.pointer f.findings = rw (← hp) (rw he at x) in
    same_scanned f g he hp (one_findings image g.extent g.pointer f.findings g.findings z y)

abbrev HasPlanned : PlanValue → Scanned → Type 0
HasPlanned plan f = pointer_of plan f.extent ≡ Some f.pointer

same_results : (image : Image) (plan : PlanValue) (fs gs : List Scanned) → extent_numbers fs ≡ extent_numbers gs →
    All (HasPlanned plan) fs → All (HasPlanned plan) gs →
    HaveFindings image fs → HaveFindings image gs → fs ≡ gs
same_results image plan [] [] e pf pg x y = refl
same_results image plan [] (g ∷ gs) e pf pg x y = absurd (nil_has_no_first g.extent (extent_numbers gs) e)
same_results image plan (f ∷ fs) [] e pf pg x y = absurd (nil_has_no_first f.extent (extent_numbers fs) (sym e))
same_results image plan (f ∷ fs) (g ∷ gs) e pf pg x y =
    ap₂ (λ h hs. h ∷ hs)
    (one_scanned image plan f g (same_first f.extent g.extent (extent_numbers fs) (extent_numbers gs) e)
    (All-head (HasPlanned plan) f fs pf) (All-head (HasPlanned plan) g gs pg) (All-head is f fs x) (All-head is g gs y))
    (same_results image plan fs gs (same_behind_first f.extent g.extent (extent_numbers fs) (extent_numbers gs) e)
    (All-tail (HasPlanned plan) f fs pf) (All-tail (HasPlanned plan) g gs pg) (All-tail is f fs x) (All-tail is g gs y))
  where
    is : Scanned → Type 0
    is h = IsFindings image h.extent h.pointer h.findings

-- By its plan an image has at most one list of findings of all planned extents.
pub one_reader : (image : Image) (plan : PlanValue) (fs gs : List Scanned) → AreAllFindings image plan fs →
    AreAllFindings image plan gs → fs ≡ gs
one_reader image plan fs gs x y =
    same_results image plan fs gs (x.extents ∙ sym y.extents) x.pointers y.pointers x.findings y.findings
