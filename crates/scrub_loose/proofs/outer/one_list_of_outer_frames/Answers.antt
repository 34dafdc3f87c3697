use Rattle.scrub_loose.proofs.OuterFrames.{one_outer}
use Rattle.scrub_loose.proofs.outer.one_list_of_outer_frames.Goals as goal

pub returns : goal.returns
returns c = one_outer
