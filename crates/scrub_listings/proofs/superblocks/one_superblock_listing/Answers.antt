-- What is found on an image is unique.
use Rattle.scrub_listings.specs.Superblocks.{IsSuperblockListing}
use Rattle.scrub_listings.proofs.OneListing.{one_superblock_listing, same_text}
use Rattle.scrub_listings.proofs.superblocks.one_superblock_listing.Goals as goal

pub returns : goal.returns
returns c = λ image. same_text (IsSuperblockListing image) (one_superblock_listing image)
