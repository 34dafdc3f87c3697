use Rattle.list_facts.proofs.OneAnswers.{same_answer}
use Rattle.scrub_check.proofs.OneList.{the_shared}
use Rattle.scrub_check.proofs.lists.shared_places.one_list_of_shared_places.Goals as goal

pub returns : goal.returns
returns c = λ checked. same_answer (the_shared checked)
