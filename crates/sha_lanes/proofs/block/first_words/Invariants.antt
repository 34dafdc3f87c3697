use Rattle.std.proofs.Common.{◌≡◌, ℕ, ◌<◌, ◌*◌, length, slice_index}
use Rattle.sha2.specs.Sha256.{word_at}
use Rattle.sha_lanes.specs.Lanes.{block_at, lane_count, word_in}
use Rattle.sha_lanes.proofs.block.first_words.Given as goal

abbrev pub invariant-load : goal.invariant-load
invariant-load l = (length l.w ≡ 16) × ((j k : ℕ) → j < lane_count → k < l.i → word_in j l.w k ≡ word_at (block_at l.bytes (slice_index l.places j)) (4 * k))
