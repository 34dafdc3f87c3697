-- Each part was written whole, except perhaps the last that was begun.
use Rattle.scrub_cli.proofs.Telling.{line_first, line_second, line_third, line_last, line_whole}
use Rattle.scrub_cli.proofs.process.fault.write_line.Goals as goal

pub returns-in_err-write_out-clause-front : goal.returns-in_err-write_out-clause-front
returns-in_err-write_out-clause-front g c = line_first c.args.what.now c.args.which.now _ _ c.write_out.ensures.front

pub returns-in_err-write_out-2-clause-front : goal.returns-in_err-write_out-2-clause-front
returns-in_err-write_out-2-clause-front g c =
    line_second c.args.what.now c.args.which.now _ _ _ c.as_bytes.result.now c.as_bytes.ensures.value
    c.in_ok-write_out.ensures.whole c.write_out-2.ensures.front

pub returns-in_err-write_out-3-clause-front : goal.returns-in_err-write_out-3-clause-front
returns-in_err-write_out-3-clause-front g c =
    line_third c.args.what.now c.args.which.now _ _ _ _ c.as_bytes.result.now c.as_bytes-2.result.now c.as_bytes.ensures.value
    c.as_bytes-2.ensures.value
    c.in_ok-write_out.ensures.whole c.in_ok-write_out-2.ensures.whole c.write_out-3.ensures.front

pub returns-clause-front : goal.returns-clause-front
returns-clause-front g c =
    line_last c.args.what.now c.args.which.now _ _ _ _ _ c.as_bytes.result.now c.as_bytes-2.result.now c.as_bytes.ensures.value
    c.as_bytes-2.ensures.value
    c.in_ok-write_out.ensures.whole c.in_ok-write_out-2.ensures.whole c.in_ok-write_out-3.ensures.whole
    c.write_out-4.ensures.front

pub returns-clause-whole : goal.returns-clause-whole
returns-clause-whole g c =
    line_whole c.args.what.now c.args.which.now c.write_out-4.result _ _ _ _ _ c.as_bytes.result.now c.as_bytes-2.result.now
    c.as_bytes.ensures.value
    c.as_bytes-2.ensures.value c.in_ok-write_out.ensures.whole c.in_ok-write_out-2.ensures.whole
    c.in_ok-write_out-3.ensures.whole c.write_out-4.ensures.whole
