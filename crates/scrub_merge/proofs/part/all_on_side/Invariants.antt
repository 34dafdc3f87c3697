-- The first runs are parted.
use Rattle.std.proofs.Common.{◌≡◌, take}
use Rattle.scrub_merge.specs.steps.Parts.{is_on, kept}
use Rattle.scrub_merge.proofs.part.all_on_side.Given as goal

abbrev pub invariant-loop-run : goal.invariant-loop-run
invariant-loop-run l = l.all.items ≡ kept (is_on l.side) (take l.run-index l.runs)
