-- The choice and the pages of extent 0 of an image are unique.
use Rattle.scrub_listings.proofs.OneListing.{one_said}
use Rattle.scrub_listings.proofs.remarks.one_list_of_remarks.Goals as goal

pub returns : goal.returns
returns c = one_said
