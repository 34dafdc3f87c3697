use Rattle.std.proofs.Common.{◌∙◌}
use Rattle.list_facts.proofs.Searches.{found_among_rising}
use Rattle.scrub_super.proofs.plan.has_extent.Goals as goal

pub returns : goal.returns
returns c = c.is_ok.ensures.value ∙ found_among_rising _ c.args.extent _ c.requires c.binary_search.ensures.position
