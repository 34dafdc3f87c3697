-- What the locators say is said of each list of locators that they are of.
use Rattle.scrub_check.proofs.lists.liveness.liveness_by.Goals as goal

pub returns-clause-shared : goal.returns-clause-shared
returns-clause-shared g c = λ checked locators. c.in_ok-shared_by.ensures checked locators.sound
