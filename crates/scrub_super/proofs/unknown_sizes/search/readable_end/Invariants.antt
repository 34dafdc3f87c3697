-- No block so far is lost, from the offset's on.
use Rattle.std.proofs.Common.{◌<◌, ◌≤◌, ◌/◌, ℕ}
use Rattle.scrub_super.specs.Blocks.{IsMarked}
use Rattle.scrub_super.proofs.unknown_sizes.search.readable_end.Given as goal

abbrev pub invariant-loop-block : goal.invariant-loop-block
invariant-loop-block l = (n : ℕ) → l.offset / 512 ≤ n → n < l.block → IsMarked l.lost n → ⊥
