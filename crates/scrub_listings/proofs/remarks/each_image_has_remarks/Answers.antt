use Rattle.scrub_listings.proofs.OneListing.{some_said}
use Rattle.scrub_listings.proofs.remarks.each_image_has_remarks.Goals as goal

pub returns : goal.returns
returns c = some_said
