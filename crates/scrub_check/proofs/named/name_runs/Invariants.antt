use Rattle.std.proofs.Common.{◌≡◌, take}
use Rattle.scrub_check.specs.Named.{named_by_runs}
use Rattle.scrub_check.proofs.named.name_runs.Given as goal

-- the locators of the runs so far are named
abbrev pub invariant-loop-number : goal.invariant-loop-number
invariant-loop-number l = l.named.items ≡ named_by_runs 0 (take l.number l.runs)
