-- Each result is tested.
use Rattle.std.proofs.Common.{rules, tests}
use Rattle.std.proofs.lemmas.Iterator.Consumers.{YieldsList-from_first}
use Rattle.std.proofs.lemmas.Iterator.Search.{all_from_yields_List}
use Rattle.scrub_found.specs.Scrubbed.{is_clean_extent}
use Rattle.scrub_found.proofs.clean.are_clean_extents.Goals as goal

pub returns : goal.returns
returns g c =
    all_from_yields_List is_clean_extent _ _ _ c.all.ensures.ran (YieldsList-from_first _ _ c.args.all.now.extents c.results.ensures.results) (λ x b q k. search (rules, tests))
