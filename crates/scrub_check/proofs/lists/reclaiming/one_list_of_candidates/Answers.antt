use Rattle.scrub_check.proofs.OneList.{one_list}
use Rattle.scrub_check.proofs.lists.reclaiming.one_list_of_candidates.Goals as goal

pub returns : goal.returns
returns c = one_list
