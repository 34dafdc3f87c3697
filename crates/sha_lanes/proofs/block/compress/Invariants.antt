use Rattle.std.proofs.Common.{ℕ, ◌<◌, ◌*◌, slice_index}
use Rattle.sha2.specs.Sha256.{IsRoundsAt}
use Rattle.sha_lanes.specs.Lanes.{block_at, column, lane, lane_count}
use Rattle.sha_lanes.proofs.block.compress.Given as goal

abbrev pub invariant-schedule : goal.invariant-schedule
invariant-schedule l = (j : ℕ) → j < lane_count → IsRoundsAt (block_at l.bytes (slice_index l.places j)) (lane j l.state) (column j l.w) (lane j l.v) (16 * l.turn)
