use Rattle.std.proofs.Common.{◌∙◌, ap, arith, slice_index}
use Rattle.std.specs.Int.{w32, rotate_right}
use Rattle.sha_lanes.proofs.LaneByLane.{known, read, both, below_word}
use Rattle.sha_lanes.proofs.Rotations.{rotated_three}
use Rattle.sha_lanes.proofs.block.big_sigma1.Goals as goal

pub returns : goal.returns
returns c l lt =
    let x = read c.fits-x.0 in
    let fits = below_word c.args.x c.fits-x.0 c.fits-x.1 lt in
    let inner = both _ lt x (known (c.rotate_right.ensures l lt) (omega arith)) in
    let second = known (c.rotate_right-2.ensures l lt ∙ ap (λ y. rotate_right w32 y 5) inner.word) (omega arith) in
    let outer = both _ lt x second in
    c.rotate_right-3.ensures l lt ∙ ap (λ y. rotate_right w32 y 6) outer.word
    ∙ rotated_three 32 (slice_index c.args.x l) 6 5 14 (omega arith) fits
