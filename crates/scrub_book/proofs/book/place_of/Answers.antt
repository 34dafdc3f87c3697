use Rattle.list_facts.proofs.Searches.{not_found_among_rising}
use Rattle.scrub_book.proofs.book.place_of.Goals as goal

pub returns-clause-none : goal.returns-clause-none
returns-clause-none c =
    rw c.ok.ensures.value
    (not_found_among_rising c.args.planned.now c.args.extent c.binary_search.result c.requires c.binary_search.ensures.position)
