-- A record that one finds the other finds too.
use Rattle.scrub_listings.proofs.SizesLists.{one_size_lem}
use Rattle.scrub_listings.proofs.sizes_listing.one_size.Goals as goal

pub returns : goal.returns
returns c = one_size_lem
