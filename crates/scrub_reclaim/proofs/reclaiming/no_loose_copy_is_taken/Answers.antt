-- Such a copy, or such an extent, would make a doubt, and an extent with a copy offers no room.
use Rattle.scrub_reclaim.proofs.LooseLaw.{crowded_kept, loose_kept}
use Rattle.scrub_reclaim.proofs.reclaiming.no_loose_copy_is_taken.Goals as goal

pub returns-clause-loose : goal.returns-clause-loose
returns-clause-loose c = loose_kept

pub returns-clause-crowded : goal.returns-clause-crowded
returns-clause-crowded c = crowded_kept
