use Rattle.std.proofs.Common.{refl, ap, ◌≡◌, ◌∙◌, ◌+◌, ◌-◌, ◌/◌}
use Rattle.scrub_check.proofs.Gaps.{gap_pages, pages_gap}
use Rattle.scrub_check.proofs.statuses.extents.has_gap.Goals as goal

-- the pages of the bytes are those from the first through the last
pub returns : goal.returns
returns g c = λ e in_disk is.
    let source = g.met.D.PageSource g.world.𝓛 g.world.𝓜 g.world.𝓡 ((λ s x. x), (λ x. x), (λ x. x), λ x. x) in
    let image = g.D.PageSource.image c.args.disk.now in
    let page = c.page-page.result in
    let first = c.args.start / page in
    let last = (c.args.start + c.args.size - 1) / page in
    let same : page ≡ image.geometry.page = c.page-page.ensures ∙ ap (λ x. x.page) c.geometry.ensures in (
      λ known. gap_pages image e c.args.start c.args.size page first last (source.whole_pages c.args.disk.now) in_disk
          c.requires.in_extent c.requires.some same refl refl
          (rw is at (c.has_page_between.ensures.0 known)),
      λ gap. c.has_page_between.ensures.1 (rw is
          (pages_gap image e c.args.start c.args.size page first last (source.whole_pages c.args.disk.now) in_disk c.requires.in_extent c.requires.some same refl refl gap)),
    )
