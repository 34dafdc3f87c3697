-- One more argument, which names a page.
use Rattle.scrub_cli.proofs.NamedPages.{named_more}
use Rattle.scrub_cli.proofs.commands.disk_image.bad_pages.Goals as goal

pub loop-arg-preserved : goal.loop-arg-preserved
loop-arg-preserved c =
    named_more c.args.geometry c.args.args.now c.loop-arg.pages.items c.push.new.self.items c.loop-arg.arg-index _
    c.in-Some.page
    c.loop-arg-test.true c.loop-arg.invariant c.in-Some.ensures c.in_ok-push.ensures.items
