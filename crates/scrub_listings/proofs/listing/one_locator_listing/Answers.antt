-- What is found on an image is unique.
use Rattle.scrub_listings.specs.Locators.{IsLocatorListing}
use Rattle.scrub_listings.proofs.OneListing.{one_listing, same_text}
use Rattle.scrub_listings.proofs.listing.one_locator_listing.Goals as goal

pub returns : goal.returns
returns c = λ image. same_text (IsLocatorListing image) (one_listing image)
