-- One page more, with a record or without.
use Rattle.scrub_super.proofs.PageSteps.{reach_more, reach_kept}
use Rattle.scrub_super.proofs.extent_zero.reach_with.Goals as goal

pub returns-in-Some : goal.returns-in-Some
returns-in-Some c = λ image q h there. reach_more h c.max.ensures (rw c.in-Some.is at there)

pub returns-in-None : goal.returns-in-None
returns-in-None c = λ image q h there. reach_kept h (rw c.in-None.is at there)
