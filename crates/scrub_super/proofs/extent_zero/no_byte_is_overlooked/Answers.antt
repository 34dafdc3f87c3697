-- By what the byte's page is.
use Rattle.scrub_super.proofs.PageLaws.{none_overlooked}
use Rattle.scrub_super.proofs.extent_zero.no_byte_is_overlooked.Goals as goal

pub returns : goal.returns
returns c = none_overlooked
