-- The extents so far.
use Rattle.scrub_loose.specs.steps.Walk.{AreExtentsBut}
use Rattle.scrub_loose.proofs.outer.extents_but_first.Given as goal

abbrev pub invariant-loop-extent : goal.invariant-loop-extent
invariant-loop-extent l = AreExtentsBut l.extent l.all.items
