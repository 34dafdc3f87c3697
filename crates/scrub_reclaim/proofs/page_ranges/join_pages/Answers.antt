-- One more page is joined.
use Rattle.std.proofs.Common.{List, get_or, sym, ap, ◌∙◌}
use Rattle.scrub_reclaim.specs.declared.page_ranges.PageRange.{PageRange}
use Rattle.scrub_reclaim.specs.steps.PageRanges.{joined_with}
use Rattle.scrub_reclaim.proofs.PageRanges.{ranges_more}
use Rattle.scrub_reclaim.proofs.page_ranges.join_pages.Goals as goal

pub loop-page-preserved : goal.loop-page-preserved
loop-page-preserved c =
    let pages = c.args.pages.now in
    let i = c.loop-page.page-index in
    c.in_ok-join_page.ensures
    ∙ ap (λ (rs : List PageRange). joined_with rs (get_or pages i 0)) c.loop-page.invariant
    ∙ sym (ranges_more pages i 0 c.loop-page-test.true)
