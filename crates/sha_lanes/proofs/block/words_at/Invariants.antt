use Rattle.std.proofs.Common.{◌≡◌, ℕ, ◌<◌, length, slice_index}
use Rattle.sha2.specs.Sha256.{word_at}
use Rattle.sha_lanes.specs.Lanes.{block_at, lane_count}
use Rattle.sha_lanes.proofs.block.words_at.Given as goal

abbrev pub invariant-lanes : goal.invariant-lanes
invariant-lanes l = (length l.words ≡ lane_count) × ((j : ℕ) → j < l.l → slice_index l.words j ≡ word_at (block_at l.bytes (slice_index l.places j)) l.at)
