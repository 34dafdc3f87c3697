-- The places past the identifier stay the same while cursors move on, the heap follows, and less and less is left.
use Rattle.std.proofs.Common.{◌≡◌, length}
use Rattle.std.specs.BinaryHeap.{heap_items}
use Rattle.scrub_merge.specs.steps.Cursors.{ahead, places_past, IsHeapOf}
use Rattle.scrub_merge.proofs.Left.{entries_left}
use Rattle.scrub_merge.proofs.Moves.{AreNotBelow}
use Rattle.scrub_merge.proofs.cursors.move_on.Given as goal

abbrev pub invariant-loop-number : goal.invariant-loop-number
invariant-loop-number l = record {
  count : length l.places ≡ length l.runs;
  behind : places_past l.id l.runs l.places ≡ places_past l.id l.runs l.initial.places;
  heap : IsHeapOf (ahead l.runs l.places) (heap_items l.heap);
  not_below : AreNotBelow l.id (ahead l.runs l.places);
}

abbrev pub decreases-loop-number : goal.decreases-loop-number
decreases-loop-number l = entries_left (ahead l.runs l.places)
