-- The parts are the text.
use Rattle.std.proofs.Common.{arith}
use Rattle.scrub_report.specs.steps.Tokens.{listed_extents, listed_orphans}
use Rattle.scrub_report.proofs.ReportText.{report_joined}
use Rattle.scrub_report.proofs.report.report_text.Goals as goal

pub returns-then-is_short : goal.returns-then-is_short
returns-then-is_short g c =
    let l = c.args.listed in
    let made = c.in_ok-begun.ensures in
    report_joined l c.args.broken.now c.args.clean c.joined.result c.in_ok-begun.begun.items c.in_ok-begun.later made.begun made.later
    (c.joined.ensures (listed_extents l) (listed_orphans l) c.piece_size-size.result 32768 c.piece_size-size.ensures (omega arith) made.extents made.later.orphans)

pub returns : goal.returns
returns g c =
    let l = c.args.listed in
    let made = c.in_ok-begun.ensures in
    report_joined l c.args.broken.now c.args.clean c.join-text.result.0 c.in_ok-begun.begun.items c.in_ok-begun.later made.begun made.later
    (c.join-text.ensures.first (listed_extents l) (listed_orphans l) c.piece_size-size.result 32768 c.piece_size-size.ensures (omega arith) made.extents made.later.orphans)
