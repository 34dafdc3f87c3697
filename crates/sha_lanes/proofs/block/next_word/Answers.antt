use Rattle.std.proofs.Common.{◌≡◌, ◌+◌, ◌%◌, refl, arith}
use Rattle.sha_lanes.proofs.LaneByLane.{column_at}
use Rattle.sha_lanes.proofs.block.next_word.Goals as goal

pub returns-clause-value : goal.returns-clause-value
returns-clause-value c l lt =
    let w = c.args.w.now in
    let place = c.args.place in
    let at : place % 16 ≡ place = omega arith in
    rw (
      at,
      column_at l ((place + 14) % 16) w (omega arith),
      column_at l ((place + 9) % 16) w (omega arith),
      column_at l ((place + 1) % 16) w (omega arith),
      column_at l place w (omega arith),
      c.add-word.ensures l lt,
      c.add-sum-2.ensures l lt,
      c.add-sum.ensures l lt,
      c.small_sigma1.ensures l lt,
      c.small_sigma0.ensures l lt,
    )
    refl
