-- Ascending lines of the same records and ranges are one list.
use Rattle.scrub_listings.proofs.SizesLists.{one_text}
use Rattle.scrub_listings.proofs.sizes_listing.one_sizes_listing.Goals as goal

pub returns : goal.returns
returns c = one_text
