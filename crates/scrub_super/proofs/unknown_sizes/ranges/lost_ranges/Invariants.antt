-- The runs that have ended so far, and the beginning of the one that may go on with the next block.
use Rattle.scrub_super.proofs.LostRuns.{AreRunsTo, RunsFrom}
use Rattle.scrub_super.proofs.unknown_sizes.ranges.lost_ranges.Given as goal

abbrev pub invariant-loop-block : goal.invariant-loop-block
invariant-loop-block l = record {
  runs_from : RunsFrom l.lost l.first l.block;
  ranges : AreRunsTo l.lost l.block l.ranges.items;
}
