use Rattle.std.proofs.Common.{refl, sym, arith}
use Rattle.sha2.proofs.Schedule256.{rounds_first}
use Rattle.sha_lanes.specs.Lanes.{column, lane}
use Rattle.sha_lanes.proofs.LaneByLane.{column_at}
use Rattle.sha_lanes.proofs.block.first_step.Goals as goal

pub returns : goal.returns
returns c l lt b h window held =
    rounds_first b h (column l c.args.w.now) (lane l c.args.v) c.args.t _ _ _ c.requires window held refl
    (sym (column_at l c.args.t c.args.w.now (omega arith))) (c.round.ensures l lt)
