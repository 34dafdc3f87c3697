use Rattle.std.proofs.Common.{take}
use Rattle.std.specs.List.{AllZip}
use Rattle.scrub_check.specs.steps.RunWithStatus.{IsRunWithStatus}
use Rattle.scrub_check.proofs.runs.read_runs.Given as goal

-- those so far are judged
abbrev pub invariant-loop-locator : goal.invariant-loop-locator
invariant-loop-locator g l =
    AllZip (IsRunWithStatus (g.D.PageSource.image l.fn.disk) l.fn.plan) (take l.locator-index l.locators) l.judged.items
