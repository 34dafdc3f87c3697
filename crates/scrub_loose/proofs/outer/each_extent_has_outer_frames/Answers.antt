use Rattle.scrub_loose.proofs.RunsThere.{some_outer}
use Rattle.scrub_loose.proofs.outer.each_extent_has_outer_frames.Goals as goal

pub returns : goal.returns
returns c = some_outer
