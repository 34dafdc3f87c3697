use Rattle.std.proofs.Common.{arith}
use Rattle.sha_lanes.proofs.LaneByLane.{rounds_at}
use Rattle.sha_lanes.proofs.block.first_four_steps.Goals as goal

pub returns : goal.returns
returns c l lt b h window held =
    let s1 = c.first_step-v.ensures l lt b h window held in
    let s2 = c.first_step-v-2.ensures l lt b h window s1 in
    let s3 = c.first_step-v-3.ensures l lt b h window (rounds_at h _ (omega arith) s2) in
    let s4 = c.first_step.ensures l lt b h window (rounds_at h _ (omega arith) s3) in
    rounds_at h _ (omega arith) s4
