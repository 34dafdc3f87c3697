use Rattle.std.proofs.Common.{arith}
use Rattle.scrub_map.proofs.Numerals.{writes_more, writes_nothing}
use Rattle.scrub_map.proofs.number.numeral.Goals as goal

pub returns-in_err-value : goal.returns-in_err-value
returns-in_err-value c =
    rw c.from_residual.ensures
    (writes_nothing _ _ _ _ (omega arith) c.loop-digit-test.true c.loop-digit.invariant c.in_err-value.ensures)

pub loop-digit-preserved : goal.loop-digit-preserved
loop-digit-preserved c = writes_more _ _ _ _ _ c.loop-digit-test.true c.loop-digit.invariant c.in_ok-value.ensures
