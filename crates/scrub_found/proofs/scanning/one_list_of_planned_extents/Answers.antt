-- One choice has one plan.
use Rattle.scrub_found.proofs.OneScrub.{one_planned}
use Rattle.scrub_found.proofs.scanning.one_list_of_planned_extents.Goals as goal

pub returns : goal.returns
returns c = one_planned
