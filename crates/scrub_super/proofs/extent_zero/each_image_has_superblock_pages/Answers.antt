use Rattle.scrub_super.proofs.PagesThere.{some_pages}
use Rattle.scrub_super.proofs.extent_zero.each_image_has_superblock_pages.Goals as goal

pub returns : goal.returns
returns c = some_pages
