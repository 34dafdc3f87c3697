-- One more page, and how far the records up to it reach.
use Rattle.std.proofs.Common.{◌≡◌, ◌+◌, ◌*◌, ◌∙◌, ap, false, get_or, length, None}
use Rattle.std.proofs.lemmas.List.{length_push}
use Rattle.std.proofs.lemmas.Option.{slice_get-get_or}
use Rattle.scrub_super.specs.declared.pages.SeenPage.{SeenPage}
use Rattle.scrub_super.specs.steps.PagesFound.{IsRecordReach, IsSeenPage}
use Rattle.scrub_super.proofs.PageSteps.{each_more, known_of}
use Rattle.scrub_super.proofs.extent_zero.pages_of.Goals as goal

pub loop-page-preserved : goal.loop-page-preserved
loop-page-preserved g c =
    let image = g.D.PageSource.image c.args.disk.now in
    let q = c.loop-page.page in
    let page : SeenPage =
    get_or c.args.seen_pages.now q (record { found = None; is_readable = false; letters = None; used = 0 }) in
    let seen : IsSeenPage image q page =
    c.requires.pages.each q page (slice_get-get_or c.args.seen_pages.now q _ c.loop-page-test.true) in
    let reach : IsRecordReach image (q + 1) c.reach_with-reach.result =
    c.reach_with-reach.ensures image q c.loop-page.invariant.reach seen.found in
    let start : q * c.page-size.result ≡ q * image.geometry.page =
    ap (λ n. q * n) (c.page-size.ensures ∙ ap (λ h. h.page) c.geometry.ensures) in
    record {
      count =
          ap length c.in_ok-push.ensures.items
          ∙ length_push c.loop-page.pages.items c.page_of.result
          ∙ ap (λ n. n + 1) c.loop-page.invariant.count;
      each =
          each_more image c.loop-page.pages.items c.page_of.result c.loop-page.invariant.count c.in_ok-push.ensures.items
          c.loop-page.invariant.each
          (c.page_of.ensures image q (known_of seen start c.saturating_sub.ensures reach) c.requires.records);
      reach = reach;
    }
