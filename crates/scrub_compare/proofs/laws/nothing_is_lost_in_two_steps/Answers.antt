-- No named locator points into the first extents, so that a reset of these takes no line away.
use Rattle.scrub_compare.proofs.Chained.{nothing_lost_in_two}
use Rattle.scrub_compare.proofs.laws.nothing_is_lost_in_two_steps.Goals as goal

pub returns : goal.returns
returns c = nothing_lost_in_two
