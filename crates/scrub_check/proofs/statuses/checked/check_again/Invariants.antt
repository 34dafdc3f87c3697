-- Those that runs and the first bindings name, each with its status.
use Rattle.std.proofs.Common.{◌≡◌, length}
use Rattle.std.specs.List.{AllZip}
use Rattle.scrub_disk.specs.Image.{Image}
use Rattle.scrub_super.specs.Plan.{PlanValue}
use Rattle.scrub_check.specs.Checked.{IsChecked}
use Rattle.scrub_check.specs.Named.{named_locators}
use Rattle.scrub_check.specs.steps.Open.{IsKnownBefore}
use Rattle.scrub_check.proofs.Rebuilt.{named_first}
use Rattle.scrub_check.proofs.statuses.checked.check_again.Given as goal

abbrev pub invariant-loop-binding : goal.invariant-loop-binding
invariant-loop-binding l = record {
  count : length l.checked.items ≡ length (named_first l.runs l.bindings l.binding-index);
  each : (image : Image) (plan : PlanValue) → AllZip (IsKnownBefore image plan) (named_locators l.runs l.bindings) l.known →
      AllZip (IsChecked image plan) (named_first l.runs l.bindings l.binding-index) l.checked.items;
}
