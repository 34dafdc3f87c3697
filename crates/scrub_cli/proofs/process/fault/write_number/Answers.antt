-- Each part was written whole, except perhaps the last that was begun.
use Rattle.std.specs.Fmt.{decimal}
use Rattle.scrub_cli.proofs.Telling.{number_first, number_second, number_third, number_fourth, number_last, number_whole}
use Rattle.scrub_cli.proofs.process.fault.write_number.Goals as goal

pub returns-in_err-write_out-clause-front : goal.returns-in_err-write_out-clause-front
returns-in_err-write_out-clause-front g c =
    number_first c.args.before.now (decimal c.args.number) c.args.after.now _ _ c.write_out.ensures.front

pub returns-in_err-write_out-2-clause-front : goal.returns-in_err-write_out-2-clause-front
returns-in_err-write_out-2-clause-front g c =
    number_second c.args.before.now (decimal c.args.number) c.args.after.now _ _ _ c.as_bytes.result.now
    c.as_bytes.ensures.value
    c.in_ok-write_out.ensures.whole c.write_out-2.ensures.front

pub returns-in_err-write_decimal-clause-front : goal.returns-in_err-write_decimal-clause-front
returns-in_err-write_decimal-clause-front g c =
    number_third c.args.before.now (decimal c.args.number) c.args.after.now _ _ _ _ c.as_bytes.result.now
    c.as_bytes.ensures.value
    c.in_ok-write_out.ensures.whole c.in_ok-write_out-2.ensures.whole c.write_decimal.ensures.front

pub returns-in_err-write_out-3-clause-front : goal.returns-in_err-write_out-3-clause-front
returns-in_err-write_out-3-clause-front g c =
    number_fourth c.args.before.now (decimal c.args.number) c.args.after.now _ _ _ _ _ c.as_bytes.result.now
    c.as_bytes-2.result.now
    c.as_bytes.ensures.value c.as_bytes-2.ensures.value
    c.in_ok-write_out.ensures.whole c.in_ok-write_out-2.ensures.whole c.in_ok-write_decimal.ensures.whole
    c.write_out-3.ensures.front

pub returns-clause-front : goal.returns-clause-front
returns-clause-front g c =
    number_last c.args.before.now (decimal c.args.number) c.args.after.now _ _ _ _ _ _ c.as_bytes.result.now
    c.as_bytes-2.result.now
    c.as_bytes.ensures.value c.as_bytes-2.ensures.value
    c.in_ok-write_out.ensures.whole c.in_ok-write_out-2.ensures.whole c.in_ok-write_decimal.ensures.whole
    c.in_ok-write_out-3.ensures.whole
    c.write_out-4.ensures.front

pub returns-clause-whole : goal.returns-clause-whole
returns-clause-whole g c =
    number_whole c.args.before.now (decimal c.args.number) c.args.after.now c.write_out-4.result _ _ _ _ _ _
    c.as_bytes.result.now c.as_bytes-2.result.now
    c.as_bytes.ensures.value c.as_bytes-2.ensures.value
    c.in_ok-write_out.ensures.whole c.in_ok-write_out-2.ensures.whole c.in_ok-write_decimal.ensures.whole
    c.in_ok-write_out-3.ensures.whole
    c.write_out-4.ensures.whole
