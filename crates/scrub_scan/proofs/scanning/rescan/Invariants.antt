-- The results so far are under the plan's write pointers, and the others are still to come. There is room for them.
use Rattle.std.proofs.Common.{◌+◌, ◌≤◌, vec_len}
use Rattle.std.specs.Vec.{vec_capacity}
use Rattle.std.specs.Vec.Iter.{into_iter_items, into_iter_len}
use Rattle.scrub_scan.proofs.Rescans.{AreUnderSoFar}
use Rattle.scrub_scan.proofs.scanning.rescan.Given as goal

abbrev pub invariant-loop-slot : goal.invariant-loop-slot
invariant-loop-slot g l = record {
  so_far : AreUnderSoFar (g.D.PageSource.image l.disk) l.plan l.slots.items (into_iter_items l.slot-iterator);
  room : vec_len l.slots + into_iter_len l.slot-iterator ≤ vec_capacity l.slots;
}
