use Rattle.scrub_reclaim.proofs.Existing.{some_reclaim_listing}
use Rattle.scrub_reclaim.proofs.reclaiming.each_image_has_a_reclaim_listing.Goals as goal

pub returns : goal.returns
returns c = some_reclaim_listing
