-- The report and the lines are of the same scrub.
use Rattle.scrub_reclaim.proofs.Clear.{of_candidates}
use Rattle.scrub_reclaim.proofs.reclaiming.reclaimed_are_candidates.Goals as goal

pub returns : goal.returns
returns c = of_candidates
