-- One more line.
use Rattle.std.proofs.Common.{◌∙◌}
use Rattle.scrub_cli.proofs.ItemLines.{lines_of-more}
use Rattle.scrub_cli.proofs.commands.answer.lines.Goals as goal

pub loop-item-preserved : goal.loop-item-preserved
loop-item-preserved c =
    rw (c.in_ok-push.ensures.items, c.in_ok-extend_from_slice.ensures.items)
    (lines_of-more c.args.items.now c.item-item.result c.loop-item.item-index c.loop-item.text.items c.as_bytes.result.now
    c.loop-item-test.true c.item-item.is c.loop-item.invariant (c.as_bytes.ensures.value ∙ c.in_ok-line.ensures))
