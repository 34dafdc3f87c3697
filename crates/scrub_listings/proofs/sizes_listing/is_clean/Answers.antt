-- There is a first record, whose sizes all have, and no lost range.
use Rattle.std.proofs.Common.{rules, ap, sym, ◌∙◌, ◌≡◌, ◌<◌, length}
use Rattle.std.proofs.lemmas.List.{nil_from_length, get_or_default}
use Rattle.scrub_listings.proofs.SizesLists.{clean_lists}
use Rattle.scrub_listings.proofs.sizes_listing.is_clean.Goals as goal

pub returns : goal.returns
returns c =
    let some : 0 < length c.args.found.now.records.items = search rules in
    let none : length c.args.found.now.lost.items ≡ 0 = search rules in
    clean_lists c.args.found.now.records.items c.args.found.now.lost.items c.index.result.now.geometry c.have_sizes.result some (nil_from_length c.args.found.now.lost.items none)
    (λ d. ap (λ r. r.geometry) (get_or_default c.args.found.now.records.items 0 d c.index.result.now some) ∙ ap (λ r. r.geometry) (sym c.index.ensures))
    (rw c.deref.ensures.value at c.have_sizes.ensures)
