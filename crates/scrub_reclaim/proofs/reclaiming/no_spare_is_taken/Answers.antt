-- Such a chunk would make a doubt.
use Rattle.scrub_reclaim.proofs.SpareLaw.{spares_kept}
use Rattle.scrub_reclaim.proofs.reclaiming.no_spare_is_taken.Goals as goal

pub returns : goal.returns
returns c = spares_kept
