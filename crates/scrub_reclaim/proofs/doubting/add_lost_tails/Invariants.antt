-- The doubts so far and those of what is left are those of all.
use Rattle.std.proofs.Common.{◌≡◌, ◌++◌}
use Rattle.std.specs.List.{flat_map}
use Rattle.scrub_reclaim.specs.Doubts.{tail_lost_doubts}
use Rattle.scrub_reclaim.proofs.doubting.add_lost_tails.Given as goal

abbrev pub invariant-loop-found : goal.invariant-loop-found
invariant-loop-found g l = l.doubts.items ++ flat_map (tail_lost_doubts l.page) l.found-iterator ≡ l.fn.doubts.items ++ flat_map (tail_lost_doubts l.page) l.all.extents
