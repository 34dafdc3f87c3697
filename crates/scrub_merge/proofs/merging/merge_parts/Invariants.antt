-- The bindings so far, followed by the shard map of what is ahead of the cursors, are the shard map of the parts; the first
-- entries ahead are in the heap; and less and less is ahead.
use Rattle.std.proofs.Common.{◌≡◌, length}
use Rattle.std.specs.BinaryHeap.{heap_items}
use Rattle.scrub_merge.specs.steps.Cursors.{ahead, Continues, IsHeapOf}
use Rattle.scrub_merge.specs.ShardMap.{AreRuns}
use Rattle.scrub_merge.proofs.Left.{entries_left}
use Rattle.scrub_merge.proofs.merging.merge_parts.Given as goal

abbrev pub invariant-loop-least : goal.invariant-loop-least
invariant-loop-least l = record {
  places : length l.places.items ≡ length l.runs;
  runs : AreRuns l.runs;
  heap : IsHeapOf (ahead l.runs l.places.items) (heap_items l.heap);
  continues : Continues l.runs (ahead l.runs l.places.items) l.bindings.items;
}

abbrev pub decreases-loop-least : goal.decreases-loop-least
decreases-loop-least l = entries_left (ahead l.runs l.places.items)
