-- By induction over the pages.
use Rattle.scrub_reclaim.proofs.JoinedPages.{joined_pages}
use Rattle.scrub_reclaim.proofs.page_ranges.neighbouring_pages_are_joined.Goals as goal

pub returns : goal.returns
returns c = joined_pages
