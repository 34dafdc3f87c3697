-- The doubts of the first of them.
use Rattle.std.proofs.Common.{◌≡◌, ◌++◌, take}
use Rattle.std.specs.List.{flat_map}
use Rattle.scrub_reclaim.specs.Doubts.{crowded_doubt}
use Rattle.scrub_reclaim.proofs.loose_doubts.add_crowded.Given as goal

abbrev pub invariant-loop-extent : goal.invariant-loop-extent
invariant-loop-extent l = l.doubts.items ≡ l.fn.doubts.items ++ flat_map (crowded_doubt l.extents) (take l.extent-index l.crowded)
