-- The numbers are those of the candidates.
use Rattle.scrub_listings.proofs.summary.append_candidates.Goals as goal

pub returns : goal.returns
returns c = rw (c.freed_by.ensures, c.moved_for.ensures) at c.append_numbers.ensures
