-- The doubts of the first of them.
use Rattle.std.proofs.Common.{◌≡◌, ◌++◌, take}
use Rattle.std.specs.List.{flat_map}
use Rattle.scrub_reclaim.specs.steps.KeptCopies.{loose_doubts_by}
use Rattle.scrub_reclaim.proofs.loose_doubts.add_all.Given as goal

abbrev pub invariant-loop-one : goal.invariant-loop-one
invariant-loop-one l = l.doubts.items ≡ l.fn.doubts.items ++ flat_map (loose_doubts_by l.copies l.stay) (take l.one-index l.all)
