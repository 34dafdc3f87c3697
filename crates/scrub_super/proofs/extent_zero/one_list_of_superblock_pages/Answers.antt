-- A page holds one thing, and the lists are of one length.
use Rattle.scrub_super.proofs.PageLaws.{one_list_of_pages}
use Rattle.scrub_super.proofs.extent_zero.one_list_of_superblock_pages.Goals as goal

pub returns : goal.returns
returns c = one_list_of_pages
