-- The plan of an image keeps the limits of a plan, as does the same plan with resets.
use Rattle.std.proofs.Common.{◌≡◌, ◌-◌, ℕ, List, arith, refl, ◌∙◌, ap, Option, Some, None, IfSome, MatchOption}
use Rattle.scrub_disk.specs.Image.{Image}
use Rattle.scrub_disk.specs.declared.geometry.Geometry.{Geometry}
use Rattle.scrub_super.specs.Chosen.{Choice, IsChoice}
use Rattle.scrub_super.specs.Contents.{Contents}
use Rattle.scrub_super.specs.Plan.{IsPlan, PlanValue, plan_of}
use Rattle.scrub_super.specs.Planned.{extents_in_use}
use Rattle.scrub_super.specs.Record.{AreContents}
use Rattle.scrub_super.specs.Reset.{IsReset}
use Rattle.scrub_super.specs.steps.PlanParts.{IsPlanBy, IsPlanInParts, IsPlanWithout}
use Rattle.scrub_super.proofs.Listed.{listed_extents, pointers_in, runs_in}
use Rattle.scrub_super.proofs.NewestRecords.{superblock_fits}
use Rattle.scrub_super.proofs.PlanParts.{plan_parts}
use Rattle.scrub_super.proofs.Plans.{all_in_use, full_pointers, in_use_planned, no_runs, none_retired}
use Rattle.scrub_super.proofs.Resets.{reset_within}

-- the plan that follows from the choice of an image keeps the limits of a plan
pub plan_fits : (image : Image) (choice : Choice) (plan : PlanValue) → IsChoice image choice → plan ≡ plan_of choice → IsPlan plan
plan_fits image choice plan chosen follows =
    by choice.superblock (superblock_fits chosen) is.by
  where
    is : IsPlanInParts choice plan
    is = plan_parts choice plan follows

    g : Geometry
    g = image.geometry

    same : plan.geometry ≡ image.geometry
    same = is.geometry ∙ chosen.geometry

    planned : plan.planned ≡ extents_in_use image.geometry.extents plan.retired
    planned = is.all ∙ ap (λ (k : Geometry). extents_in_use k.extents plan.retired) chosen.geometry

    by : (o : Option Contents) → IfSome o (AreContents image.geometry) →
        MatchOption o (IsPlanWithout plan choice.geometry) (IsPlanBy plan) → IsPlan plan
    by None fits without = record {
      extents = rw (same, planned) (in_use_planned image.geometry.extents plan.retired);
      retired = none_retired plan.geometry.extents plan.retired without.retired;
      in_use = rw planned (all_in_use image.geometry.extents plan.retired);
      within =
          rw (without.pointers, is.geometry)
          (full_pointers choice.geometry (choice.geometry.extents - 1) _
          (omega (arith, choice.geometry.extents_least)) refl);
      located = no_runs without.runs;
    }
    by (Some c) fits with = record {
      extents = rw (same, planned) (in_use_planned image.geometry.extents plan.retired);
      retired = rw (same, with.retired) (listed_extents image.geometry.extents c.retired fits.retired);
      in_use = rw planned (all_in_use image.geometry.extents plan.retired);
      within = rw (same, with.pointers) (pointers_in fits);
      located = rw with.runs (runs_in fits);
    }

-- so does the same plan with resets
pub reset_fits : (old plan : PlanValue) (extents : List ℕ) → IsReset old extents plan → IsPlan old → IsPlan plan
reset_fits old plan extents is fits = record {
  extents = rw (is.geometry, is.planned) fits.extents;
  retired = rw (is.geometry, is.retired) fits.retired;
  in_use = rw (is.retired, is.planned) fits.in_use;
  within = rw (is.geometry, is.pointers) (reset_within old.geometry extents old.pointers fits.within);
  located = rw is.runs fits.located;
}
