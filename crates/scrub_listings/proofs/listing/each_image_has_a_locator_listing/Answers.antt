use Rattle.scrub_listings.specs.Locators.{IsLocatorListing}
use Rattle.scrub_listings.proofs.OneListing.{one_listing, some_text}
use Rattle.scrub_listings.proofs.listing.each_image_has_a_locator_listing.Goals as goal

pub returns : goal.returns
returns c = λ image. some_text (IsLocatorListing image) (one_listing image)
