use Rattle.scrub_check.proofs.OneStatus.{one_under_pointer, one_in_plan}
use Rattle.scrub_check.proofs.statuses.status.one_status.Goals as goal

pub returns-clause-under_pointer : goal.returns-clause-under_pointer
returns-clause-under_pointer c = one_under_pointer

pub returns-clause-in_plan : goal.returns-clause-in_plan
returns-clause-in_plan c = one_in_plan
