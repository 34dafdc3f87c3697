-- Below the earlier write pointers all bytes are as they were.
use Rattle.scrub_compare.proofs.Undone.{can_be_undone}
use Rattle.scrub_compare.proofs.laws.it_can_be_undone.Goals as goal

pub returns : goal.returns
returns c = can_be_undone
