use Rattle.scrub_loose.proofs.LooseThere.{some_loose}
use Rattle.scrub_loose.proofs.copies.each_plan_has_loose_frames.Goals as goal

pub returns : goal.returns
returns c = some_loose
