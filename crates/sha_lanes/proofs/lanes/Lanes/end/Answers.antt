use Rattle.std.proofs.Common.{◌<◌, arith, slice_index}
use Rattle.sha_lanes.proofs.Carrying.{block_within}
use Rattle.sha_lanes.proofs.lanes.Lanes.end.Goals as goal

pub step-requires-clause-some : goal.step-requires-clause-some
step-requires-clause-some c =
    let inv = c.blocks-2.invariant in
    let left = inv.left in
    let more : 0 < slice_index c.blocks-2.self.left c.args.l = omega arith in
    omega (arith, block_within c.args.l inv.lanes c.requires.within c.requires.lane more)

pub step-requires-clause-blocks : goal.step-requires-clause-blocks
step-requires-clause-blocks c = λ l lt more. block_within l c.blocks-2.invariant.lanes c.requires.within lt more
