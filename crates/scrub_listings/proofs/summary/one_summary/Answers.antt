-- What is found on an image is unique.
use Rattle.scrub_listings.specs.Summary.{IsSummary}
use Rattle.scrub_listings.proofs.OneListing.{one_summary, same_text}
use Rattle.scrub_listings.proofs.summary.one_summary.Goals as goal

pub returns : goal.returns
returns c = λ last image. same_text (IsSummary last image) (one_summary last image)
