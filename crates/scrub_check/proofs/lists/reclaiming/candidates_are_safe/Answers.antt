use Rattle.scrub_check.proofs.KeptChunks.{candidates_safe}
use Rattle.scrub_check.proofs.lists.reclaiming.candidates_are_safe.Goals as goal

pub returns : goal.returns
returns c = candidates_safe
