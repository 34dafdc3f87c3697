use Rattle.std.proofs.Common.{◌<◌}
use Rattle.sha_lanes.specs.Lanes.{lane_count}
use Rattle.sha_lanes.proofs.lanes.shortest.Given as goal

abbrev pub invariant-lanes : goal.invariant-lanes
invariant-lanes l = l.lane < lane_count
