-- What is lost would have a line.
use Rattle.scrub_compare.proofs.AfterResets.{nothing_lost}
use Rattle.scrub_compare.proofs.laws.nothing_is_lost.Goals as goal

pub returns : goal.returns
returns c = nothing_lost
