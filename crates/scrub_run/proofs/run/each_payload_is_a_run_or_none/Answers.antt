use Rattle.scrub_run.proofs.RunsThere.{some_run}
use Rattle.scrub_run.proofs.run.each_payload_is_a_run_or_none.Goals as goal

pub returns : goal.returns
returns c = some_run
