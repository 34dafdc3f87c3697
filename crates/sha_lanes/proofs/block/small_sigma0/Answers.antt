use Rattle.std.proofs.Common.{◌∙◌, ap, arith, slice_index}
use Rattle.std.specs.Int.{w32, rotate_right}
use Rattle.sha_lanes.proofs.LaneByLane.{known, read, both, below_word, splat}
use Rattle.sha_lanes.proofs.Rotations.{rotated_two}
use Rattle.sha_lanes.proofs.block.small_sigma0.Goals as goal

pub returns : goal.returns
returns c l lt =
    let x = read c.fits-x.0 in
    let fits = below_word c.args.x c.fits-x.0 c.fits-x.1 lt in
    let inner = both _ lt x (known (c.rotate_right.ensures l lt) (omega arith)) in
    let turned =
    known
    (c.rotate_right-2.ensures l lt ∙ ap (λ y. rotate_right w32 y 7) inner.word
    ∙ rotated_two 32 (slice_index c.args.x l) 7 11 (omega arith) fits)
    (omega arith) in
    (both _ lt turned (both _ lt x (splat _ lt))).word
