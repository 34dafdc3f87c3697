use Rattle.std.proofs.Common.{◌∙◌, arith, slice_index}
use Rattle.sha2.proofs.Schedule256.{IsWindow_first}
use Rattle.sha_lanes.specs.Lanes.{block_at, column}
use Rattle.sha_lanes.proofs.LaneByLane.{column_at, length-column}
use Rattle.sha_lanes.proofs.block.first_words.Goals as goal

pub returns : goal.returns
returns c = λ j lt.
    let w = c.load.w in
    IsWindow_first (block_at c.args.bytes.now (slice_index c.args.places.now j)) (column j w) (length-column j w ∙ c.load.invariant.0)
    (λ k below. column_at j k w (omega (arith, c.load.invariant.0)) ∙ c.load.invariant.1 j k lt (omega arith))
