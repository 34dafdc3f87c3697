-- The first runs are there.
use Rattle.std.proofs.Common.{◌≡◌, take}
use Rattle.scrub_merge.proofs.part.whole_runs.Given as goal

abbrev pub invariant-loop-run : goal.invariant-loop-run
invariant-loop-run l = l.all.items ≡ take l.run-index l.runs
