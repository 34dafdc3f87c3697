-- Its doubt isn't accepted by anything.
use Rattle.scrub_reclaim.proofs.LastLaw.{by_last}
use Rattle.scrub_reclaim.proofs.reclaiming.listed_by_last.Goals as goal

pub returns : goal.returns
returns c = by_last
