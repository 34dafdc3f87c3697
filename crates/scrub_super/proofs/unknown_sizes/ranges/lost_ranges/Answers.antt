-- One more block, at which a run may end.
use Rattle.std.proofs.Common.{arith, ◌+◌}
use Rattle.scrub_super.proofs.LostRuns.{RunsFrom, starts_behind, goes_on, runs_next, all_runs}
use Rattle.scrub_super.proofs.unknown_sizes.ranges.lost_ranges.Goals as goal
use Rattle.scrub_super.proofs.unknown_sizes.ranges.lost_ranges.Goals.{then-not-lost-block, else-not-lost-block}

pub loop-block-preserved : goal.loop-block-preserved
loop-block-preserved c =
    let from : RunsFrom c.args.lost.now c.if-not-lost-block.first (c.loop-block.block + 1) = elim c.if-not-lost-block.branch [
      | then-not-lost-block w ↦ rw w.first-is (starts_behind c.loop-block.block w.if-not-lost-block.true)
      | else-not-lost-block w ↦
          rw w.first-is (goes_on c.loop-block.block w.if-not-lost-block.false c.loop-block.invariant.runs_from)
    ] in
    record {
      runs_from = from;
      ranges = runs_next from c.in_ok-add_run.ensures c.loop-block.invariant.ranges;
    }

pub returns : goal.returns
returns c = all_runs (omega (arith, c.loop-block-test.false)) c.loop-block.invariant.ranges
