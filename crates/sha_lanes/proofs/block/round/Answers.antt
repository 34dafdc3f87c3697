use Rattle.std.proofs.Common.{refl}
use Rattle.sha_lanes.specs.Lanes.{lane_count}
use Rattle.sha_lanes.proofs.LaneByLane.{HasIn, splat}
use Rattle.sha_lanes.proofs.block.round.Goals as goal

pub returns : goal.returns
returns c l lt =
    let constant : HasIn lane_count l _ c.args.k = splat c.args.k lt in
    rw (
      c.add.ensures l lt,
      c.add-2.ensures l lt,
      c.add-temp1-4.ensures l lt,
      c.add-temp1-3.ensures l lt,
      c.add-temp1-2.ensures l lt,
      c.add-temp1.ensures l lt,
      c.add-temp2.ensures l lt,
      c.big_sigma1.ensures l lt,
      c.ch.ensures l lt,
      c.big_sigma0.ensures l lt,
      c.maj.ensures l lt,
      constant.word,
    )
    refl
