-- The law, by the parts of bytes that begin with a frame.
use Rattle.scrub_frame.proofs.Frames.{one_frame_lem}
use Rattle.scrub_frame.proofs.frame.one_frame.Goals as goal

pub returns : goal.returns
returns c = one_frame_lem
