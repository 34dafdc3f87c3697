-- The numbers are those of the choice, the plan and the extents.
use Rattle.scrub_listings.proofs.summary.append_reading.Goals as goal

pub returns : goal.returns
returns g c = rw (c.bad_pages.ensures, c.counted_in_all.ensures.sum, c.runs.ensures.runs) at c.append_numbers.ensures
