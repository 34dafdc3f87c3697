use Rattle.std.proofs.Common.{◌≡◌, ◌-◌, ◌%◌, arith}
use Rattle.sha_lanes.proofs.LaneByLane.{read, both, splat}
use Rattle.sha_lanes.proofs.block.rotate_right.Goals as goal

pub returns : goal.returns
returns c l lt =
    let right : c.args.k % 32 ≡ c.args.k = omega arith in
    let left : (32 - c.args.k) % 32 ≡ 32 - c.args.k = omega arith in
    let x = read c.fits-x.0 in
    rw (right, left) (both _ lt (both _ lt x (splat _ lt)) (both _ lt x (splat _ lt))).word
