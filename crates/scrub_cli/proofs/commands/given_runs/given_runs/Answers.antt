-- Without arguments nothing is given, or else the runs at the places of all arguments.
use Rattle.std.proofs.Common.{◌∙◌, arith, length, sym}
use Rattle.scrub_cli.proofs.GivenRunsAnswers.{some_given}
use Rattle.scrub_cli.proofs.commands.given_runs.given_runs.Goals as goal

pub returns-clause-given : goal.returns-clause-given
returns-clause-given g c = (some_given (length c.args.args.now) (sym c.is_empty.ensures ∙ c.if-is_empty.false), c.in_ok-runs.ensures.runs)

pub returns-clause-located : goal.returns-clause-located
returns-clause-located g c = record { count = omega (arith, c.if-len.false, c.len.ensures); each = c.in_ok-runs.ensures.located }
