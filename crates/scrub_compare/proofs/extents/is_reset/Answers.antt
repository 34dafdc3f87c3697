-- A search among ascending extents finds one exactly if it is there.
use Rattle.std.proofs.Common.{◌∙◌}
use Rattle.list_facts.proofs.Searches.{found_among_rising}
use Rattle.scrub_compare.proofs.extents.is_reset.Goals as goal

pub returns : goal.returns
returns c = c.is_ok.ensures.value ∙ found_among_rising _ c.args.extent _ c.requires c.binary_search.ensures.position
