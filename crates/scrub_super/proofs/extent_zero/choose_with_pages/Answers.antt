-- One page down, and at the end all pages.
use Rattle.std.proofs.Common.{◌≡◌, ◌+◌, ◌-◌, ◌∙◌, arith, length-set}
use Rattle.scrub_super.proofs.PageSteps.{seen_more}
use Rattle.scrub_super.proofs.extent_zero.choose_with_pages.Goals as goal

pub loop-page-preserved : goal.loop-page-preserved
loop-page-preserved g c =
    let image = g.D.PageSource.image c.args.disk.now in
    let so_far = c.loop-page.invariant in
    let next : c.loop-page.page ≡ c.loop-page.page - 1 + 1 = omega (arith, c.loop-page-test.true) in
    record {
      searched = c.in_ok-seen_page.ensures.searched;
      count = length-set c.loop-page.seen_pages.items (c.loop-page.page - 1) _ ∙ so_far.count;
      seen =
          seen_more image c.loop-page.seen_pages.items _ next so_far.count (omega (arith, so_far.searched.few, next))
          c.in_ok-seen_page.ensures.seen so_far.seen;
    }

pub pages_of-requires-clause-pages : goal.pages_of-requires-clause-pages
pages_of-requires-clause-pages g c κs within =
    let e : c.loop-page.page ≡ 0 = omega (arith, c.loop-page-test.false) in
    rw c.deref.ensures.value (record {
      count = c.loop-page.invariant.count;
      each = λ q page is. c.loop-page.invariant.seen q page (omega (arith, e)) is;
    })

pub choice_of-requires-after_bounds : goal.choice_of-requires-after_bounds
choice_of-requires-after_bounds g c κs within =
    let e : c.loop-page.page ≡ 0 = omega (arith, c.loop-page-test.false) in
    rw e at c.loop-page.invariant.searched
