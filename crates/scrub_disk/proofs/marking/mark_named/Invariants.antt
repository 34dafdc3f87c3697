-- The names so far are marked.
use Rattle.std.proofs.Common.{take}
use Rattle.scrub_disk.specs.steps.Marked.{MarksAll}
use Rattle.scrub_disk.proofs.marking.mark_named.Given as goal

abbrev pub invariant-loop-extent : goal.invariant-loop-extent
invariant-loop-extent g l = MarksAll (g.D.PageSource.image l.initial.disk) (g.D.PageSource.image l.disk) (take l.extent-index l.named)
