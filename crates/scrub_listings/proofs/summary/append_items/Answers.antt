-- The numbers are the sums over the extents.
use Rattle.scrub_listings.proofs.summary.append_items.Goals as goal

pub returns : goal.returns
returns g c =
    rw (c.counted_in_all.ensures.sum, c.counted_in_all-2.ensures.sum, c.counted_in_all-3.ensures.sum, c.counted_in_all-4.ensures.sum, c.counted_in_all-5.ensures.sum)
    at c.append_numbers.ensures
