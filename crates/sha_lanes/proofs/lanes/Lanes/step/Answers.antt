use Rattle.std.proofs.Common.{arith}
use Rattle.sha_lanes.proofs.Carrying.{Carries_step}
use Rattle.sha_lanes.proofs.lanes.Lanes.step.Goals as goal

pub returns-clause-carries : goal.returns-clause-carries
returns-clause-carries c = λ l span lt carries. Carries_step (c.lanes.invariant.so_far l (omega arith)) carries
