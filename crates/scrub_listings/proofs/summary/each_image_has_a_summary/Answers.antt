use Rattle.scrub_listings.specs.Summary.{IsSummary}
use Rattle.scrub_listings.proofs.OneListing.{one_summary, some_text}
use Rattle.scrub_listings.proofs.summary.each_image_has_a_summary.Goals as goal

pub returns : goal.returns
returns c = λ last image. some_text (IsSummary last image) (one_summary last image)
