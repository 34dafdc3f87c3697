-- The law: the entries that a payload spells are the only ones.
use Rattle.scrub_run.proofs.RunsThere.{one_run_lem}
use Rattle.scrub_run.proofs.run.one_run.Goals as goal

pub returns : goal.returns
returns c = one_run_lem
