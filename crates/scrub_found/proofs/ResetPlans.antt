-- A plan as if extents had been reset: what it plans, and that there is one.
use Rattle.std.proofs.Common.{◌≡◌, ◌==◌, ◌∷◌, [], ℕ, true, false, List, length, arith, refl, sym, ◌∙◌, ap, subst}
use Rattle.std.proofs.lemmas.Bool.{eqb-true, false≢true}
use Rattle.list_facts.proofs.OneAnswers.{HasOneAnswer, is_that}
use Rattle.scrub_disk.specs.declared.geometry.Geometry.{Geometry}
use Rattle.scrub_disk.specs.Image.{Image}
use Rattle.scrub_super.specs.Chosen.{Choice, IsChoice}
use Rattle.scrub_super.specs.Plan.{PlanValue, plan_of}
use Rattle.scrub_super.specs.Reset.{IsReset, pointers_reset}
use Rattle.scrub_super.specs.Planned.{extents_in_use}
use Rattle.scrub_super.specs.steps.PlanParts.{IsPlanInParts}
use Rattle.scrub_super.proofs.PlanParts.{plan_parts}
use Rattle.scrub_scan.specs.AllFindings.{AreAllFindings}
use Rattle.scrub_scan.specs.Scanned.{Scanned}
use Rattle.scrub_check.specs.WholeScan.{IsWholeScan}
use Rattle.scrub_found.specs.Takings.{ArePlannedExtents}
use Rattle.scrub_found.specs.Resets.{IsPlanBut}

-- Without resets the plan of a choice meets `IsPlanBut`.
pub none_reset : (resets : List ℕ) (choice : Choice) (plan : PlanValue) → (length resets == 0) ≡ true → plan ≡ plan_of choice →
    IsPlanBut resets choice plan
none_reset [] choice plan none is = is
none_reset (e ∷ es) choice plan none is =
    let no : length (e ∷ es) ≡ 0 = eqb-true (length (e ∷ es)) 0 none in absurd (omega (arith, no))

-- If extents are reset in the plan of a choice, the result meets `IsPlanBut` for these resets.
pub some_reset : (resets : List ℕ) (choice : Choice) (old plan : PlanValue) → (length resets == 0) ≡ false → old ≡ plan_of choice →
    IsReset old resets plan → IsPlanBut resets choice plan
some_reset [] choice old plan some is reset = absurd (false≢true (sym some))
some_reset (e ∷ es) choice old plan some is reset = (old, is, reset)

-- all extents in use are planned
pub whole_but : (resets : List ℕ) (choice : Choice) (plan : PlanValue) (image : Image) (all : List Scanned) → IsChoice image choice →
    IsPlanBut resets choice plan → AreAllFindings image plan all → IsWholeScan image plan all
whole_but [] choice plan image all chosen is found =
    let by : IsPlanInParts choice plan = plan_parts choice plan is in
    record {
      geometry = by.geometry ∙ chosen.geometry;
      planned = by.all ∙ ap (λ (g : Geometry). extents_in_use g.extents plan.retired) chosen.geometry;
      findings = found;
    }
whole_but (e ∷ es) choice plan image all chosen is found =
    let old = is.0 in
    let by : IsPlanInParts choice old = plan_parts choice old is.1 in
    let reset : IsReset old (e ∷ es) plan = is.2 in
    record {
      geometry = reset.geometry ∙ by.geometry ∙ chosen.geometry;
      planned =
          reset.planned ∙ by.all
          ∙ ap (λ (g : Geometry). extents_in_use g.extents old.retired) chosen.geometry
          ∙ ap (extents_in_use image.geometry.extents) (sym reset.retired);
      findings = found;
    }

-- the same extents are planned as without resets
pub planned_but : (resets : List ℕ) (choice : Choice) (plan : PlanValue) (image : Image) → IsChoice image choice →
    IsPlanBut resets choice plan → ArePlannedExtents image plan.planned
planned_but [] choice plan image chosen is =
    record { choice = choice; chosen = chosen; are = ap (λ (p : PlanValue). p.planned) is }
planned_but (e ∷ es) choice plan image chosen is =
    record { choice = choice; chosen = chosen; are = is.2.planned ∙ ap (λ (p : PlanValue). p.planned) is.1 }

-- there is one plan
pub the_plan_but : (resets : List ℕ) (choice : Choice) → HasOneAnswer (IsPlanBut resets choice)
the_plan_but [] choice = is_that (plan_of choice)
the_plan_but (e ∷ es) choice =
    let old = plan_of choice in
    record {
      answer = record {
        geometry = old.geometry;
        planned = old.planned;
        retired = old.retired;
        pointers = pointers_reset (e ∷ es) old.pointers;
        runs = old.runs;
        has_superblock = old.has_superblock;
      };
      meets = (old, refl, record { planned = refl; geometry = refl; retired = refl; pointers = refl; runs = refl; has = refl });
      only = λ plan is.
          let reset : IsReset old (e ∷ es) plan = subst (λ (o : PlanValue). IsReset o (e ∷ es) plan) is.1 is.2 in
          λ i. record {
            geometry = reset.geometry i;
            planned = reset.planned i;
            retired = reset.retired i;
            pointers = reset.pointers i;
            runs = reset.runs i;
            has_superblock = reset.has i;
          };
    }

-- its planned extents are those of the plan without resets
pub planned_same : (resets : List ℕ) (choice : Choice) (old plan : PlanValue) → old ≡ plan_of choice → IsPlanBut resets choice plan →
    old.planned ≡ plan.planned
planned_same [] choice old plan was is = ap (λ (p : PlanValue). p.planned) (was ∙ sym is)
planned_same (e ∷ es) choice old plan was is =
    let reset : IsReset is.0 (e ∷ es) plan = is.2 in
    ap (λ (p : PlanValue). p.planned) (was ∙ sym is.1) ∙ sym reset.planned

-- what a plan has that isn't a write pointer is that of the plan without resets
pub plan_before : (resets : List ℕ) (choice : Choice) (plan : PlanValue) → IsPlanBut resets choice plan →
    (old : PlanValue) × (old ≡ plan_of choice) × (plan.retired ≡ old.retired) × (plan.runs ≡ old.runs) × (plan.has_superblock ≡ old.has_superblock)
plan_before [] choice plan is = (plan, is, refl, refl, refl)
plan_before (e ∷ es) choice plan is =
    let reset : IsReset is.0 (e ∷ es) plan = is.2 in
    (is.0, is.1, reset.retired, reset.runs, reset.has)
