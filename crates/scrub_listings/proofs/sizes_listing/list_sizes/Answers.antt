-- The lines and the verdict are those of what was found.
use Rattle.std.proofs.Common.{ap, ◌∙◌}
use Rattle.scrub_listings.specs.Sizes.{size_lines}
use Rattle.scrub_listings.proofs.SizesLists.{listing_known}
use Rattle.scrub_listings.proofs.sizes_listing.list_sizes.Goals as goal

pub returns : goal.returns
returns c = λ raw lacking fails failures front.
    listing_known raw lacking failures c.in_ok-found.found.records.items c.in_ok-found.found.lost.items c.in_ok-lines.lines.items c.in_ok-text.text.items _
    (c.in_ok-found.ensures raw lacking fails failures front) (rw (c.deref.ensures.value, c.deref-2.ensures.value) at c.in_ok-lines.ensures) (c.in_ok-text.ensures ∙ ap size_lines c.deref-3.ensures.value) c.is_clean-is_clean.ensures
