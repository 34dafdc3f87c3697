-- the bytes so far
use Rattle.std.proofs.Common.{◌≡◌, ◌<◌, ◌↔◌, ℕ, get_or}
use Rattle.scrub_disk.proofs.zeros.largest.Given as goal

abbrev pub invariant-loop-byte : goal.invariant-loop-byte
invariant-loop-byte l = (l.most ≡ 0) ↔ ((k : ℕ) → k < l.byte-index → get_or l.part k 0 ≡ 0)
