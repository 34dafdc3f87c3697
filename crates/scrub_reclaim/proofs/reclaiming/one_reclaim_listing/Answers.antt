-- What is found on an image is unique.
use Rattle.scrub_reclaim.proofs.Clear.{one_reclaim_lem}
use Rattle.scrub_reclaim.proofs.reclaiming.one_reclaim_listing.Goals as goal

pub returns : goal.returns
returns c = one_reclaim_lem
