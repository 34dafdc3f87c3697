use Rattle.list_facts.proofs.OneAnswers.{same_answer}
use Rattle.scrub_check.proofs.OneList.{the_broken}
use Rattle.scrub_check.proofs.lists.broken.one_list_of_broken_shards.Goals as goal

pub returns : goal.returns
returns c = λ checked. same_answer (the_broken checked)
