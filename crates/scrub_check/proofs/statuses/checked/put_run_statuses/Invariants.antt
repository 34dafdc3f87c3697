-- The statuses so far are put to those that were known.
use Rattle.std.proofs.Common.{List}
use Rattle.std.specs.List.{AllZip}
use Rattle.scrub_disk.specs.Image.{Image}
use Rattle.scrub_super.specs.Plan.{PlanValue}
use Rattle.scrub_merge.specs.Binding.{BindingValue}
use Rattle.scrub_check.specs.steps.Open.{IsKnownBefore}
use Rattle.scrub_check.specs.Named.{named_locators}
use Rattle.scrub_check.specs.Runs.{AreRunStatuses}
use Rattle.scrub_check.proofs.statuses.checked.put_run_statuses.Given as goal

abbrev pub invariant-loop-i : goal.invariant-loop-i
invariant-loop-i l =
    (image : Image) (plan : PlanValue) (map : List BindingValue) → AreRunStatuses image plan l.fn.statuses →
    AllZip (IsKnownBefore image plan) (named_locators plan.runs map) l.initial.known →
    AllZip (IsKnownBefore image plan) (named_locators plan.runs map) l.known
