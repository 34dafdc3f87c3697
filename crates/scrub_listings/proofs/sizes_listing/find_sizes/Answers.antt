-- The sizes are those of what was found.
use Rattle.scrub_listings.proofs.SizesLists.{sizes_known}
use Rattle.scrub_listings.proofs.sizes_listing.find_sizes.Goals as goal

pub returns : goal.returns
returns c = λ raw lacking fails failures front.
    sizes_known raw lacking failures c.in_ok-found.found.records.items c.in_ok-found.found.lost.items
    (c.in_ok-found.ensures raw lacking fails failures front) c.sizes_in.result c.sizes_in.ensures
