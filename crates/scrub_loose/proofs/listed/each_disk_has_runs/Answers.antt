use Rattle.scrub_loose.proofs.Naming.{some_listed}
use Rattle.scrub_loose.proofs.listed.each_disk_has_runs.Goals as goal

pub returns : goal.returns
returns c = some_listed
