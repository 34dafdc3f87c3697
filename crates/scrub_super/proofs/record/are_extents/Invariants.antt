-- The numbers so far rise, each among 1 up to E.
use Rattle.scrub_super.proofs.Extents.{RiseTo}
use Rattle.scrub_super.proofs.record.are_extents.Given as goal

abbrev pub invariant-loop-i : goal.invariant-loop-i
invariant-loop-i l = RiseTo l.extents l.bytes l.i l.last
