use Rattle.scrub_pool.proofs.Schedules.{scheduled}
use Rattle.scrub_pool.proofs.takings.some_schedule_takes_so.Goals as goal

pub returns : goal.returns
returns c = scheduled
