-- One digit, or the digits before the last and then the last.
use Rattle.std.proofs.Common.{arith}
use Rattle.std.proofs.lemmas.Fmt.{decimal_digit, decimal_step}
use Rattle.scrub_cli.proofs.Appending.{front_stays, front_then, ok_then}
use Rattle.scrub_cli.proofs.process.decimal.+write_decimal.Goals as goal

pub returns-then-number-lt10-clause-whole : goal.returns-then-number-lt10-clause-whole
returns-then-number-lt10-clause-whole g t c = rw (decimal_digit c.args.number c.if-number-lt10.true) c.write_out.ensures.whole

pub returns-then-number-lt10-clause-front : goal.returns-then-number-lt10-clause-front
returns-then-number-lt10-clause-front g t c = rw (decimal_digit c.args.number c.if-number-lt10.true) c.write_out.ensures.front

pub returns-in_err-write_decimal-clause-front : goal.returns-in_err-write_decimal-clause-front
returns-in_err-write_decimal-clause-front g t c =
    rw (decimal_step c.args.number (omega (arith, c.if-number-lt10.false)) c.ranges.number.fits)
    (front_stays _ _ _ _ c.write_decimal.ensures.front)

pub returns-clause-whole : goal.returns-clause-whole
returns-clause-whole g t c =
    rw (decimal_step c.args.number (omega (arith, c.if-number-lt10.false)) c.ranges.number.fits)
    (ok_then c.write_out-2.result _ _ _ _ _ c.in_ok-write_decimal.ensures.whole c.write_out-2.ensures.whole)

pub returns-clause-front : goal.returns-clause-front
returns-clause-front g t c =
    rw (decimal_step c.args.number (omega (arith, c.if-number-lt10.false)) c.ranges.number.fits)
    (front_then _ _ _ _ _ c.in_ok-write_decimal.ensures.whole c.write_out-2.ensures.front)
