-- The results that are left are of the extents that are left, the first of which is held.
use Rattle.std.proofs.Common.{◌≡◌, ◌≤◌, ◌+◌, ◌++◌, drop, length}
use Rattle.std.specs.Prelude.{slice_get}
use Rattle.std.specs.Vec.Iter.{into_iter_items, into_iter_len}
use Rattle.scrub_book.specs.Extents.{extents_in}
use Rattle.scrub_book.specs.Worker.{held_by, taken_by, results_of, spare_of}
use Rattle.scrub_pool.specs.steps.Working.{AreResults}
use Rattle.scrub_pool.proofs.group.scan_taken.Given as goal

abbrev pub invariant-loop-found : goal.invariant-loop-found
invariant-loop-found g l =
    let left = into_iter_items l.found-iterator in
    let image = g.D.PageSource.image l.disk in record {
      extents : extents_in left ≡ drop l.done l.group;
      count : l.done + into_iter_len l.found-iterator ≡ length l.group;
      long : into_iter_len l.found-iterator ≡ length left;
      held : held_by l.core ≡ slice_get l.group l.done;
      taken : taken_by l.core ++ drop (l.done + 1) l.group ≡ taken_by l.initial.core ++ drop 1 l.group;
      room : length left ≤ spare_of l.core;
      left : AreResults image l.job.plan.now left;
      results : AreResults image l.job.plan.now (results_of l.core);
      part : l.share.parts ≡ 1;
      counted : l.share.amount ≡ length (results_of l.core);
    }
