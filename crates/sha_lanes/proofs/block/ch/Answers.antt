use Rattle.sha_lanes.proofs.LaneByLane.{read, both, each}
use Rattle.sha_lanes.proofs.block.ch.Goals as goal

pub returns : goal.returns
returns c l lt =
    let x = read c.fits-x.0 in
    let y = read c.fits-y.0 in
    let z = read c.fits-z.0 in
    (both _ lt (both _ lt x y) (both _ lt (each _ lt x) z)).word
