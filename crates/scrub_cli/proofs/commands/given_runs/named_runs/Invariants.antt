-- The arguments so far name the places so far.
use Rattle.std.proofs.Common.{take}
use Rattle.scrub_cli.specs.GivenRuns.{NameRuns}
use Rattle.scrub_cli.proofs.commands.given_runs.named_runs.Given as goal

abbrev pub invariant-loop-arg : goal.invariant-loop-arg
invariant-loop-arg l = NameRuns l.geometry (take l.arg-index l.args) l.places.items
