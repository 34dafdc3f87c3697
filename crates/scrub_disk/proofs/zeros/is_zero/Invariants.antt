-- the bytes so far are zero
use Rattle.std.proofs.Common.{◌≡◌, ◌≤◌, ◌<◌, ◌-◌, ℕ, get_or, length}
use Rattle.scrub_disk.proofs.zeros.is_zero.Given as goal

abbrev pub invariant-loop-place : goal.invariant-loop-place
invariant-loop-place l = record {
  within : l.place ≤ length l.part;
  zero : (k : ℕ) → k < l.place → get_or l.part k 0 ≡ 0;
}

abbrev pub decreases-loop-place : goal.decreases-loop-place
decreases-loop-place l = length l.part - l.place
