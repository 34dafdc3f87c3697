-- Those so far, each with its status.
use Rattle.std.proofs.Common.{◌≡◌, ◌+◌, ◌++◌, List, length, take}
use Rattle.std.specs.List.{AllZip}
use Rattle.scrub_disk.specs.Image.{Image}
use Rattle.scrub_super.specs.Plan.{PlanValue}
use Rattle.scrub_check.specs.declared.named.Named.{Named}
use Rattle.scrub_check.specs.Checked.{IsChecked}
use Rattle.scrub_check.specs.steps.Open.{IsKnownBefore}
use Rattle.scrub_check.proofs.statuses.checked.append_checked.Given as goal

abbrev pub invariant-loop-i : goal.invariant-loop-i
invariant-loop-i l = record {
  count : length l.checked.items ≡ l.from + l.i;
  each : (image : Image) (plan : PlanValue) (before later : List Named) →
      AllZip (IsKnownBefore image plan) (before ++ (l.named ++ later)) l.known →
      AllZip (IsChecked image plan) before l.initial.checked.items →
      AllZip (IsChecked image plan) (before ++ take l.i l.named) l.checked.items;
}
