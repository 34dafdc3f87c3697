-- One more item.
use Rattle.scrub_check.specs.Spares.{frame_of_item, is_wanted}
use Rattle.scrub_check.proofs.SpareCopies.{item_more}
use Rattle.scrub_check.proofs.lists.spares.add_all_wanted.Goals as goal

pub loop-item-preserved : goal.loop-item-preserved
loop-item-preserved c =
    item_more (is_wanted c.args.wanted.now) (frame_of_item c.args.extent) c.args.items.now c.loop-item.item-index c.item-item.result
    c.args.found.now.items c.loop-item.found.items c.add_wanted.new.found.items c.loop-item-test.true c.item-item.is
    c.loop-item.invariant c.in_ok-add_wanted.ensures
