use Rattle.scrub_loose.proofs.RunsThere.{found_there, one_there}
use Rattle.scrub_loose.proofs.outer.a_found_run_is_there.Goals as goal

pub returns-clause-there : goal.returns-clause-there
returns-clause-there c = found_there

pub returns-clause-one : goal.returns-clause-one
returns-clause-one c = one_there
