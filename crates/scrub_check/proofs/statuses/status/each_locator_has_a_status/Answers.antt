use Rattle.scrub_check.proofs.StatusThere.{some_status, some_in_plan}
use Rattle.scrub_check.proofs.statuses.status.each_locator_has_a_status.Goals as goal

pub returns : goal.returns
returns c = record { under_pointer = some_status; in_plan = some_in_plan }
