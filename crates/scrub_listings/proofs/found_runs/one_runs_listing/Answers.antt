-- What is found on an image is unique.
use Rattle.scrub_listings.specs.FoundRuns.{IsRunsListing}
use Rattle.scrub_listings.proofs.OneListing.{one_runs_listing, same_text}
use Rattle.scrub_listings.proofs.found_runs.one_runs_listing.Goals as goal

pub returns : goal.returns
returns c = λ image. same_text (IsRunsListing image) (one_runs_listing image)
