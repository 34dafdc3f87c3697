-- All records have the sizes of the first; or there is a record, but something is lost; or neither.
use Rattle.std.proofs.Common.{rules, ap, sym, ◌∙◌}
use Rattle.std.proofs.lemmas.List.{get_or_default}
use Rattle.scrub_listings.specs.steps.Sizes.{AreCleanLists}
use Rattle.scrub_listings.proofs.SizesLists.{first_sizes}
use Rattle.scrub_listings.proofs.sizes_listing.sizes_in.Goals as goal

pub returns-then-is_clean : goal.returns-then-is_clean
returns-then-is_clean c =
    let records = c.args.found.now.records.items in
    let clean : AreCleanLists records c.args.found.now.lost.items = c.is_clean.ensures.0 (search rules) in (
      clean,
      first_sizes records c.args.found.now.lost.items c.index.result.now.geometry clean
          (λ d. ap (λ r. r.geometry) (get_or_default records 0 d c.index.result.now clean.some) ∙ ap (λ r. r.geometry) (sym c.index.ensures)),
    )
