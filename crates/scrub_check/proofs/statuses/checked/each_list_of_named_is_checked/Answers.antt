use Rattle.scrub_check.proofs.CheckedLists.{the_checked}
use Rattle.scrub_check.proofs.statuses.checked.each_list_of_named_is_checked.Goals as goal

pub returns : goal.returns
returns c = λ image plan names. ((the_checked image plan names).answer, (the_checked image plan names).meets)
