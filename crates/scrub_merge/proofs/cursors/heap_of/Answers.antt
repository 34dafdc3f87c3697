-- One more run, and all runs.
use Rattle.std.proofs.Common.{arith}
use Rattle.std.proofs.lemmas.Option.{slice_get_within}
use Rattle.scrub_merge.proofs.Left.{first_within}
use Rattle.scrub_merge.proofs.Moves.{runs_step}
use Rattle.scrub_merge.proofs.Heaps.{empty_heap, pushed_next, over_all}
use Rattle.scrub_merge.proofs.cursors.heap_of.Goals as goal

pub loop-number-init : goal.loop-number-init
loop-number-init c = record {
  heap = empty_heap c.args.runs.now c.in_ok-heap.ensures.items c.in_ok-heap.ensures.heap_order;
  runs = λ k entries before at. absurd (omega (arith, before));
}

pub loop-number-preserved : goal.loop-number-preserved
loop-number-preserved c = record {
  heap =
      pushed_next c.args.runs.now c.loop-number.number c.index-runs-number.result c.loop-number-test.true
      c.index-runs-number.is
      c.loop-number.invariant.heap c.in_ok-push_cursor.ensures.pushed c.in_ok-push_cursor.ensures.order;
  runs =
      runs_step c.args.runs.now c.loop-number.number c.loop-number-test.true c.index-runs-number.is
      c.push_cursor.ensures.run c.loop-number.invariant.runs;
}

pub returns-clause-heap : goal.returns-clause-heap
returns-clause-heap c =
    over_all (λ k e first. omega (arith, first_within c.args.runs.now k e first)) c.loop-number.invariant.heap

pub returns-clause-runs : goal.returns-clause-runs
returns-clause-runs c =
    λ k entries is. c.loop-number.invariant.runs k entries (omega (arith, slice_get_within c.args.runs.now k _ is)) is
