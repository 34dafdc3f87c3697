-- One more name is marked.
use Rattle.std.proofs.Common.{rules}
use Rattle.scrub_disk.proofs.RawImages.{marks_more}
use Rattle.scrub_disk.proofs.marking.mark_named.Goals as goal

pub loop-extent-preserved : goal.loop-extent-preserved
loop-extent-preserved g c =
    marks_more (g.D.PageSource.image c.args.disk.now) (g.D.PageSource.image c.loop-extent.disk) (g.D.PageSource.image c.mark_bad.new.self)
    c.args.named.now c.loop-extent.extent-index _ _ (0, 0) c.requires c.loop-extent.invariant c.mark_bad.ensures c.loop-extent-test.true
    (search rules)
