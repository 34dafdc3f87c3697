-- The numbers so far are within the limit.
use Rattle.std.proofs.Common.{ℕ, ◌<◌, ◌≤◌, ◌*◌, drop}
use Rattle.byteorder.specs.Endian.{big_number}
use Rattle.scrub_super.proofs.record.are_within.Given as goal

abbrev pub invariant-loop-i : goal.invariant-loop-i
invariant-loop-i l = (j : ℕ) → j < l.i → big_number 4 (drop (4 * j) l.bytes) ≤ l.most
