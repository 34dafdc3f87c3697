use Rattle.scrub_loose.proofs.Naming.{one_listed}
use Rattle.scrub_loose.proofs.listed.one_list_of_runs.Goals as goal

pub returns : goal.returns
returns c = one_listed
