-- The marks so far are true, too.
use Rattle.scrub_super.specs.steps.BlocksRead.{MarksToo}
use Rattle.scrub_super.proofs.unknown_sizes.front.Front.without.Given as goal

abbrev pub invariant-loop-number : goal.invariant-loop-number
invariant-loop-number l = MarksToo l.lost l.number l.initial.marks.items l.marks.items
