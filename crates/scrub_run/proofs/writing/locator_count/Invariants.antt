-- No entry has more than 64.
use Rattle.std.proofs.Common.{◌*◌, ◌≤◌}
use Rattle.scrub_run.proofs.writing.locator_count.Given as goal

abbrev pub invariant-loop-one : goal.invariant-loop-one
invariant-loop-one l = l.count ≤ 64 * l.one-index
