use Rattle.sha_lanes.proofs.LaneByLane.{read, both}
use Rattle.sha_lanes.proofs.block.add.Goals as goal

pub returns : goal.returns
returns c l lt = (both _ lt (read c.fits-x.0) (read c.fits-y.0)).word
