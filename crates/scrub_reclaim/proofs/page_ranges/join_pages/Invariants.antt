-- The ranges of the first pages.
use Rattle.std.proofs.Common.{◌≡◌, take}
use Rattle.scrub_reclaim.specs.Doubts.{page_ranges}
use Rattle.scrub_reclaim.proofs.page_ranges.join_pages.Given as goal

abbrev pub invariant-loop-page : goal.invariant-loop-page
invariant-loop-page l = l.ranges.items ≡ page_ranges (take l.page-index l.pages)
