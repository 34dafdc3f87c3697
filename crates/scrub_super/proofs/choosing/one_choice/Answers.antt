-- The laws, by what a record spells and by ascending lists of the same pages.
use Rattle.scrub_super.proofs.Laws.{one_record_on_page, one_choice_lem}
use Rattle.scrub_super.proofs.choosing.one_choice.Goals as goal

pub returns-clause-on_a_page : goal.returns-clause-on_a_page
returns-clause-on_a_page c = one_record_on_page

pub returns-clause-choice : goal.returns-clause-choice
returns-clause-choice c = one_choice_lem
