-- The locators of the runs at the first places, of each place once.
use Rattle.scrub_cli.proofs.GivenRunsAnswers.{AreFirstRuns}
use Rattle.scrub_cli.proofs.commands.given_runs.runs_at.Given as goal

abbrev pub invariant-loop-number : goal.invariant-loop-number
invariant-loop-number g l = AreFirstRuns (g.D.PageSource.image l.disk) l.places l.number l.runs.items
