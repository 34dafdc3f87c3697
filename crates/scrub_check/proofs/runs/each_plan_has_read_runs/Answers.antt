use Rattle.scrub_check.proofs.IndexRuns.{the_read_runs}
use Rattle.scrub_check.proofs.runs.each_plan_has_read_runs.Goals as goal

pub returns : goal.returns
returns c = λ image plan. ((the_read_runs image plan).answer, (the_read_runs image plan).meets)
