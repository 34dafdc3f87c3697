-- A plan by given index runs, or by the choice as if extents had been reset: its sizes, what it plans, and that there is one.
use Rattle.std.proofs.Common.{◌≡◌, ◌+◌, ◌∷◌, [], ℕ, List, Option, None, Some, IfSome, length, sym, ◌∙◌, ap, subst}
use Rattle.std.specs.List.Sorted.{IsStrictlyIncreasing}
use Rattle.list_facts.proofs.OneAnswers.{HasOneAnswer, is_that}
use Rattle.scrub_disk.specs.declared.geometry.Geometry.{Geometry}
use Rattle.scrub_disk.specs.Image.{Image}
use Rattle.scrub_frame.specs.declared.locator.Locator.{Locator}
use Rattle.scrub_super.specs.Chosen.{Choice, IsChoice}
use Rattle.scrub_super.specs.GivenRuns.{plan_listing}
use Rattle.scrub_super.specs.Plan.{IsPlan, PlanValue}
use Rattle.scrub_super.specs.Planned.{extents_in_use}
use Rattle.scrub_super.specs.steps.Limits.{AreRunLocators}
use Rattle.scrub_super.proofs.GivenRuns.{listing_fits}
use Rattle.scrub_super.proofs.PlanParts.{plan_parts}
use Rattle.scrub_super.proofs.Plans.{in_use_planned}
use Rattle.scrub_super.proofs.PlansFit.{plan_fits, reset_fits}
use Rattle.scrub_scan.specs.AllFindings.{AreAllFindings}
use Rattle.scrub_scan.specs.Scanned.{Scanned}
use Rattle.scrub_check.specs.WholeScan.{IsWholeScan}
use Rattle.scrub_pool.specs.Takings.{IsPartition, TakingsValue}
use Rattle.scrub_found.specs.GivenRuns.{AreTakingsFrom}
use Rattle.scrub_found.specs.Resets.{IsPlanBut}
use Rattle.scrub_found.specs.GivenRuns.{FollowsFrom}
use Rattle.scrub_found.proofs.ResetPlans.{planned_but, the_plan_but, whole_but}

-- ---- by the choice, as if extents had been reset

-- The plan of a choice made in an image meets `IsPlan`, as if any extents had been reset.
pub plan_but_fits : (resets : List ℕ) (image : Image) (choice : Choice) (plan : PlanValue) → IsChoice image choice →
    IsPlanBut resets choice plan → IsPlan plan
plan_but_fits [] image choice plan chosen is = plan_fits image choice plan chosen is
plan_but_fits (e ∷ es) image choice plan chosen is =
    reset_fits is.0 plan (e ∷ es) is.2 (plan_fits image choice is.0 chosen is.1)

geometry_but : (resets : List ℕ) (image : Image) (choice : Choice) (plan : PlanValue) → IsChoice image choice →
    IsPlanBut resets choice plan → plan.geometry ≡ image.geometry
geometry_but [] image choice plan chosen is = (plan_parts choice plan is).geometry ∙ chosen.geometry
geometry_but (e ∷ es) image choice plan chosen is = is.2.geometry ∙ (plan_parts choice is.0 is.1).geometry ∙ chosen.geometry

-- ---- also by given runs

-- The plan is of the disk's sizes.
pub geometry_from : (given : Option (List Locator)) (resets : List ℕ) (image : Image) (choice : Choice) (plan : PlanValue) →
    IsChoice image choice → FollowsFrom given resets choice plan → plan.geometry ≡ image.geometry
geometry_from None resets image choice plan chosen follows = geometry_but resets image choice plan chosen follows
geometry_from (Some runs) resets image choice plan chosen follows = ap (λ (p : PlanValue). p.geometry) follows ∙ chosen.geometry

-- Its planned extents ascend.
pub rising_from : (given : Option (List Locator)) (resets : List ℕ) (image : Image) (choice : Choice) (plan : PlanValue) →
    IsChoice image choice → FollowsFrom given resets choice plan → IsStrictlyIncreasing plan.planned
rising_from None resets image choice plan chosen follows =
    let fits : IsPlan plan = plan_but_fits resets image choice plan chosen follows in fits.extents.rising
rising_from (Some runs) resets image choice plan chosen follows = rw follows (in_use_planned choice.geometry.extents []).rising

-- It keeps the limits of a plan, if the given runs keep theirs.
pub plan_from_fits : (given : Option (List Locator)) (resets : List ℕ) (image : Image) (choice : Choice) (plan : PlanValue) →
    IfSome given AreRunLocators → IsChoice image choice → FollowsFrom given resets choice plan → IsPlan plan
plan_from_fits None resets image choice plan can chosen follows = plan_but_fits resets image choice plan chosen follows
plan_from_fits (Some runs) resets image choice plan can chosen follows = rw follows (listing_fits choice.geometry runs can)

-- All extents in use are planned.
pub whole_from : (given : Option (List Locator)) (resets : List ℕ) (choice : Choice) (plan : PlanValue) (image : Image) (all : List Scanned) →
    IsChoice image choice → FollowsFrom given resets choice plan → AreAllFindings image plan all → IsWholeScan image plan all
whole_from None resets choice plan image all chosen follows found = whole_but resets choice plan image all chosen follows found
whole_from (Some runs) resets choice plan image all chosen follows found = record {
  geometry = ap (λ (p : PlanValue). p.geometry) follows ∙ chosen.geometry;
  planned =
      ap (λ (p : PlanValue). p.planned) follows
      ∙ ap (λ (g : Geometry). extents_in_use g.extents []) chosen.geometry
      ∙ ap (extents_in_use image.geometry.extents) (sym (ap (λ (p : PlanValue). p.retired) follows));
  findings = found;
}

-- A scan by it takes what one without resets takes.
pub takings_from : (given : Option (List Locator)) (resets : List ℕ) (choice : Choice) (plan : PlanValue) (image : Image) (workers : ℕ)
    (takings : TakingsValue) → IsChoice image choice → FollowsFrom given resets choice plan → length takings.lists ≡ workers + 1 →
    IsPartition plan.planned takings.lists → takings.counted ≡ length plan.planned → AreTakingsFrom given image workers takings
takings_from None resets choice plan image workers takings chosen follows members partition counted = record {
  planned = plan.planned;
  are_planned = planned_but resets choice plan image chosen follows;
  members = members;
  partition = partition;
  counted = counted;
}
takings_from (Some runs) resets choice plan image workers takings chosen follows members partition counted =
    let all : plan.planned ≡ extents_in_use image.geometry.extents [] =
    ap (λ (p : PlanValue). p.planned) follows ∙ ap (λ (g : Geometry). extents_in_use g.extents []) chosen.geometry in
    record {
      members = members;
      partition = subst (λ (es : List ℕ). IsPartition es takings.lists) all partition;
      counted = counted ∙ ap length all;
    }

-- There is one plan.
pub the_plan_from : (given : Option (List Locator)) (resets : List ℕ) (choice : Choice) → HasOneAnswer (FollowsFrom given resets choice)
the_plan_from None resets choice = the_plan_but resets choice
the_plan_from (Some runs) resets choice = is_that (plan_listing choice.geometry runs)
