use Rattle.scrub_loose.proofs.OneLoose.{one_loose}
use Rattle.scrub_loose.proofs.copies.one_list_of_loose_frames.Goals as goal

pub returns : goal.returns
returns c = one_loose
