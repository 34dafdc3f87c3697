use Rattle.std.proofs.Common.{take}
use Rattle.std.specs.List.{AllZip}
use Rattle.scrub_disk.specs.Image.{Image}
use Rattle.scrub_super.specs.Plan.{PlanValue}
use Rattle.scrub_check.specs.Checked.{IsChecked}
use Rattle.scrub_check.specs.steps.Open.{IsKnownBefore}
use Rattle.scrub_check.proofs.statuses.checked.check_each.Given as goal

-- those so far, each with its status
abbrev pub invariant-loop-i : goal.invariant-loop-i
invariant-loop-i l =
    (image : Image) (plan : PlanValue) → AllZip (IsKnownBefore image plan) l.fn.named l.fn.known →
    AllZip (IsChecked image plan) (take l.i l.fn.named) l.checked.items
