-- The numbers are those of the bindings and of the named locators.
use Rattle.scrub_listings.proofs.summary.append_shards.Goals as goal

pub returns : goal.returns
returns c = rw (c.doubtful_count.ensures, c.hidden_count.ensures, c.dangling_count.ensures) at c.append_numbers.ensures
