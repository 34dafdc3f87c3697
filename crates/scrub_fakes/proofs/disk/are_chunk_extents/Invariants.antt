-- The extents so far rise, each from 1 up to but not including `next`, which is at most `end`.
use Rattle.std.proofs.Common.{◌<◌, ◌≤◌, ◌+◌, ℕ, get_or}
use Rattle.scrub_fakes.proofs.disk.are_chunk_extents.Given as goal

abbrev pub invariant-loop-i : goal.invariant-loop-i
invariant-loop-i l = record {
  low : 1 ≤ l.next;
  high : l.next ≤ l.end;
  rising : (j : ℕ) → j + 1 < l.i → get_or l.extents j 0 < get_or l.extents (j + 1) 0;
  from_one : (j : ℕ) → j < l.i → 1 ≤ get_or l.extents j 0;
  below : (j : ℕ) → j < l.i → get_or l.extents j 0 < l.next;
}
