-- The second test runs only if the first holds.
use Rattle.std.proofs.Common.{◌&&◌, ap, sym, ◌∙◌}
use Rattle.std.specs.List.{list_all}
use Rattle.scrub_listings.specs.Superblocks.{is_orderly_page}
use Rattle.scrub_listings.proofs.superblocks.are_clean_pages.Goals as goal

pub returns-then-has_counting_page : goal.returns-then-has_counting_page
returns-then-has_counting_page c =
    c.are_orderly_pages.ensures ∙ ap (λ has. has && list_all is_orderly_page c.args.pages.now) (sym (sym c.has_counting_page.ensures ∙ c.if-has_counting_page.true))

pub returns-else-has_counting_page : goal.returns-else-has_counting_page
returns-else-has_counting_page c =
    c.if-has_counting_page.false ∙ ap (λ has. has && list_all is_orderly_page c.args.pages.now) (sym (sym c.has_counting_page.ensures ∙ c.if-has_counting_page.false))
