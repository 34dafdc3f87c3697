-- The plan by given index runs.
use Rattle.std.proofs.Common.{◌≡◌, ◌-◌, List, [], arith, refl}
use Rattle.scrub_disk.specs.declared.geometry.Geometry.{Geometry}
use Rattle.scrub_frame.specs.declared.locator.Locator.{Locator}
use Rattle.scrub_super.specs.Chosen.{Choice}
use Rattle.scrub_super.specs.GivenRuns.{ListsRuns, plan_listing}
use Rattle.scrub_super.specs.Plan.{IsPlan, plan_of}
use Rattle.scrub_super.specs.steps.Limits.{AreRunLocators}
use Rattle.scrub_super.proofs.Plans.{all_in_use, full_pointers, in_use_planned, none_retired}

-- The plan by given runs is that of a superblock that lists them.
pub plan_by_runs : (choice : Choice) (runs : List Locator) → ListsRuns choice runs → plan_of choice ≡ plan_listing choice.geometry runs
plan_by_runs choice runs h = rw (h.counts, h.runs_are, h.none_retired, h.at_the_end) refl

-- It keeps the limits of a plan.
pub listing_fits : (g : Geometry) (runs : List Locator) → AreRunLocators runs → IsPlan (plan_listing g runs)
listing_fits g runs located = record {
  extents = in_use_planned g.extents [];
  retired = none_retired g.extents [] refl;
  in_use = all_in_use g.extents [];
  within = full_pointers g (g.extents - 1) _ (omega (arith, g.extents_least)) refl;
  located = located;
}
