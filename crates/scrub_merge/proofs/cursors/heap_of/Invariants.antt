-- The first entries of the runs so far are in the heap.
use Rattle.std.proofs.Common.{◌≡◌, ◌<◌, ℕ, List, Some}
use Rattle.std.specs.Prelude.{slice_get}
use Rattle.std.specs.BinaryHeap.{heap_items}
use Rattle.scrub_run.specs.Entry.{EntryValue}
use Rattle.scrub_run.specs.Run.{AreEntries}
use Rattle.scrub_merge.specs.steps.Cursors.{IsHeapOver}
use Rattle.scrub_merge.proofs.cursors.heap_of.Given as goal

abbrev pub invariant-loop-number : goal.invariant-loop-number
invariant-loop-number l = record {
  heap : IsHeapOver (λ k. k < l.number) l.runs (heap_items l.heap);
  runs : (k : ℕ) (entries : List EntryValue) → k < l.number → slice_get l.runs k ≡ Some (Some entries) →
      AreEntries entries;
}
