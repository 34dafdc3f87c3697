use Rattle.scrub_listings.specs.Superblocks.{IsSuperblockListing}
use Rattle.scrub_listings.proofs.OneListing.{one_superblock_listing, some_text}
use Rattle.scrub_listings.proofs.superblocks.each_image_has_a_superblock_listing.Goals as goal

pub returns : goal.returns
returns c = λ image. some_text (IsSuperblockListing image) (one_superblock_listing image)
