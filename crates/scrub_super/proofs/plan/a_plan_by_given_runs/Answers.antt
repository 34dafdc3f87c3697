-- Each part of the plan is the superblock's.
use Rattle.scrub_super.proofs.GivenRuns.{plan_by_runs}
use Rattle.scrub_super.proofs.plan.a_plan_by_given_runs.Goals as goal

pub returns : goal.returns
returns c = plan_by_runs
