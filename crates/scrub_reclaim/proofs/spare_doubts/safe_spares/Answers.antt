-- One more, and at the end all.
use Rattle.std.proofs.Common.{◌∙◌, ap}
use Rattle.std.proofs.lemmas.List.{take_all}
use Rattle.scrub_reclaim.specs.Doubts.{safe_spares}
use Rattle.scrub_reclaim.proofs.SpareDoubts.{safe_spares_more}
use Rattle.scrub_reclaim.proofs.spare_doubts.safe_spares.Goals as goal

pub loop-spare-init : goal.loop-spare-init
loop-spare-init c checked same = c.new-stay.ensures.items

pub loop-spare-preserved : goal.loop-spare-preserved
loop-spare-preserved c checked same =
    safe_spares_more checked c.args.extents.now c.args.some.now c.loop-spare.spare-index c.spare-item.result c.loop-spare.stay.items c.add_safe_spare.new.stay.items
    c.loop-spare-test.true c.spare-item.is (c.loop-spare.invariant checked same) (c.in_ok-add_safe_spare.ensures checked same)

pub returns : goal.returns
returns c checked same =
    c.loop-spare.invariant checked same
    ∙ ap (safe_spares checked c.args.extents.now) (take_all c.loop-spare.spare-index c.args.some.now c.loop-spare-test.false)
