use Rattle.std.proofs.Common.{arith}
use Rattle.scrub_map.proofs.Lost.{marks_all, marks_more, marks_none, marks_nothing}
use Rattle.scrub_map.proofs.gap.Gap.mark.Goals as goal

pub returns-then-end-self : goal.returns-then-end-self
returns-then-end-self c = marks_nothing _ _ _ _ c.if-end-self.true

pub loop-number-init : goal.loop-number-init
loop-number-init c = marks_none _ _ _

pub loop-number-preserved : goal.loop-number-preserved
loop-number-preserved c =
    marks_more _ _ _ _ _ c.loop-number.auto.number c.loop-number-test.true (omega arith) c.loop-number.invariant

pub returns : goal.returns
returns c =
    rw (← c.from-size.ensures)
    (marks_all _ _ _ _ _ _ _ (omega arith) c.if-end-self.false (rw c.min.ensures at c.min-behind.ensures) c.loop-number-test.false c.loop-number.invariant)
