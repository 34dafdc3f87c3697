-- The doubts of the first ranges.
use Rattle.std.proofs.Common.{◌≡◌, ◌++◌, take}
use Rattle.scrub_reclaim.specs.Doubts.{range_doubts}
use Rattle.scrub_reclaim.proofs.doubting.add_ranges.Given as goal

abbrev pub invariant-loop-range : goal.invariant-loop-range
invariant-loop-range l = l.doubts.items ≡ l.fn.doubts.items ++ range_doubts l.extent (take l.range-index l.ranges)
