use Rattle.std.proofs.Common.{◌∙◌, slice_index}
use Rattle.sha_lanes.proofs.LaneByLane.{read, both}
use Rattle.sha_lanes.proofs.Maj.{maj_short}
use Rattle.sha_lanes.proofs.block.maj.Goals as goal

pub returns : goal.returns
returns c l lt =
    let x = read c.fits-x.0 in
    let y = read c.fits-y.0 in
    let z = read c.fits-z.0 in
    (both _ lt y (both _ lt (both _ lt x y) (both _ lt y z))).word
    ∙ maj_short (slice_index c.args.x l) (slice_index c.args.y l) (slice_index c.args.z l)
