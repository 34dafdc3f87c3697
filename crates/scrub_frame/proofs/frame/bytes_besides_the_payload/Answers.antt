-- The law, by the lengths of a frame's parts.
use Rattle.scrub_frame.proofs.Frames.{length-frame}
use Rattle.scrub_frame.proofs.frame.bytes_besides_the_payload.Goals as goal

pub returns : goal.returns
returns c = λ form uuid payload h. length-frame form uuid payload h.sixteen
