-- Under the pointer 0 the bytes don't matter.
use Rattle.scrub_reclaim.proofs.Reset.{as_foreseen}
use Rattle.scrub_reclaim.proofs.resetting.a_reset_is_foreseen.Goals as goal

pub returns : goal.returns
returns c = as_foreseen
