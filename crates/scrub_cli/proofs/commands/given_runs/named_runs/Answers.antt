-- One more argument, which names a place.
use Rattle.scrub_cli.proofs.GivenRunsAnswers.{named_run_more}
use Rattle.scrub_cli.proofs.commands.given_runs.named_runs.Goals as goal

pub loop-arg-preserved : goal.loop-arg-preserved
loop-arg-preserved c =
    named_run_more c.args.geometry c.args.args.now c.loop-arg.places.items c.push.new.self.items c.loop-arg.arg-index _
    c.in-Some.place
    c.loop-arg-test.true c.loop-arg.invariant c.in-Some.ensures c.in_ok-push.ensures.items
