-- The law, field by field.
use Rattle.scrub_frame.proofs.Locators.{one_locator_lem}
use Rattle.scrub_frame.proofs.locator.one_locator.Goals as goal

pub returns : goal.returns
returns c = one_locator_lem
