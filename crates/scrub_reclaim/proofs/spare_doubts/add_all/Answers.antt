-- One more, and at the end all.
use Rattle.std.proofs.Common.{◌++◌, List, ap, ◌∙◌}
use Rattle.std.proofs.Math.Path.{ap₂}
use Rattle.scrub_scan.specs.declared.standing.Standing.{Standing}
use Rattle.scrub_listings.proofs.FlatLists.{flat_all, flat_more}
use Rattle.scrub_reclaim.specs.Doubts.{first_doubt, spare_doubt, spare_doubts_by}
use Rattle.scrub_reclaim.proofs.spare_doubts.add_all.Goals as goal

pub loop-one-preserved : goal.loop-one-preserved
loop-one-preserved c =
    let part = spare_doubts_by c.args.spares.now c.args.stay.now in
    let one = c.one-item.result in
    flat_more part c.args.doubts.now.items c.loop-one.doubts.items c.add_one.new.doubts.items c.args.all.now c.loop-one.one-index one (part one)
    c.loop-one-test.true (ap part c.one-item.is) c.loop-one.invariant
    (c.in_ok-add_one.ensures
    ∙ ap₂ (λ (some stay : List Standing). c.loop-one.doubts.items ++ first_doubt (spare_doubt one.owner) some stay) c.of_one.ensures c.of_one-in-loop-one.ensures)

pub returns : goal.returns
returns c =
    flat_all (spare_doubts_by c.args.spares.now c.args.stay.now) c.args.doubts.now.items c.loop-one.doubts.items c.args.all.now c.loop-one.one-index
    c.loop-one-test.false c.loop-one.invariant
