-- The law, by the one before it: the longer frame begins with both.
use Rattle.scrub_frame.proofs.Frames.{no_frame_begins_another_lem}
use Rattle.scrub_frame.proofs.frame.no_frame_begins_another.Goals as goal

pub returns : goal.returns
returns c = no_frame_begins_another_lem
