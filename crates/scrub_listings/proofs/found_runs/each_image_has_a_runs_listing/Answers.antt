use Rattle.scrub_listings.specs.FoundRuns.{IsRunsListing}
use Rattle.scrub_listings.proofs.OneListing.{one_runs_listing, some_text}
use Rattle.scrub_listings.proofs.found_runs.each_image_has_a_runs_listing.Goals as goal

pub returns : goal.returns
returns c = λ image. some_text (IsRunsListing image) (one_runs_listing image)
