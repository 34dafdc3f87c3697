-- So far each marked page is unreadable.
use Rattle.scrub_disk.specs.steps.Marked.{MarksLost}
use Rattle.scrub_disk.proofs.marking.mark_lost.Given as goal

abbrev pub invariant-loop-number : goal.invariant-loop-number
invariant-loop-number g l = MarksLost l.lost l.number (g.D.PageSource.image l.initial.disk) (g.D.PageSource.image l.disk)
