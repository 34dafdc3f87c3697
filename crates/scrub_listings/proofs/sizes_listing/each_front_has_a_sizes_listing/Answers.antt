use Rattle.scrub_listings.proofs.SizesThere.{some_clean_front, some_sizes_lines, some_sizes_listing, some_sizes_of}
use Rattle.scrub_listings.proofs.sizes_listing.each_front_has_a_sizes_listing.Goals as goal

pub returns : goal.returns
returns c =
    record { text = some_sizes_lines; clean = some_clean_front; listing = some_sizes_listing; sizes = some_sizes_of }
