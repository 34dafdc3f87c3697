-- One more page, and at the end all.
use Rattle.std.proofs.Common.{◌≡◌, ◌<◌, ◌+◌, ◌*◌, ℕ, arith, get_or, inl, inr, sym, ap, ◌∙◌}
use Rattle.std.proofs.lemmas.Bool.{cases_lt}
use Rattle.std.proofs.lemmas.Option.{slice_get-get_or}
use Rattle.scrub_disk.specs.declared.geometry.Geometry.{Geometry}
use Rattle.scrub_disk.specs.Image.{extent_bytes}
use Rattle.scrub_disk.proofs.PagesRead.{page_fits}
use Rattle.scrub_super.specs.declared.pages.SuperblockPage.TheVariants.{Lost}
use Rattle.scrub_super.specs.steps.PagesFound.{IsRecordReach}
use Rattle.scrub_compare.specs.Written.{IsWrittenInRecords}
use Rattle.scrub_compare.specs.steps.Changes.{IsLeastWithin}
use Rattle.scrub_compare.proofs.ChangedBytes.{same_past}
use Rattle.scrub_compare.proofs.Least.{found_here, least_of_all, none_more}
use Rattle.scrub_compare.proofs.Reaches.{reach_page, record_page_least}
use Rattle.scrub_compare.proofs.records.first_in_records.Goals as goal

pub returns-then-is_some : goal.returns-then-is_some
returns-then-is_some g c =
    let before = g.D.PageSource.image c.args.before.now in
    let after = g.E.PageSource.image c.args.after.now in
    let q = c.loop-page.page in
    let per = after.geometry.page in
    let held = get_or c.args.pages.now q Lost in
    let stands = c.requires.held.each q held (slice_get-get_or c.args.pages.now q Lost c.loop-page-test.true) in
    let size : c.page-size.result ≡ per = c.page-size.ensures ∙ ap (λ (h : Geometry). h.page) c.geometry.ensures in
    let inside : q < after.geometry.pages = omega (arith, c.loop-page-test.true, c.requires.held.count) in
    let reached : IsRecordReach after (q + 1) c.reach_with-reach.result =
    rw c.reach_with-reach.ensures (reach_page after q held stands c.loop-page.invariant.reach) in
    let least : IsLeastWithin (q * per) (q * per + per) (IsWrittenInRecords before after) c.first_in_page-first.result =
    record_page_least before after c.requires.sizes c.in_ok-old.old c.in_ok-new.new c.in_ok-old.ensures c.in_ok-new.ensures q c.page-size.result
    c.reach_with-reach.result c.first_in_page-first.result size inside reached c.first_in_page-first.ensures in
    least_of_all (IsWrittenInRecords before after) (extent_bytes before.geometry) c.first_in_page-first.result
    (λ p past w. same_past before after 0 p c.requires.sizes past w.0)
    (found_here (IsWrittenInRecords before after) 0 (q * per) (q * per + per) c.loop-page.invariant.none (extent_bytes before.geometry) c.first_in_page-first.result
    (omega arith) (page_fits per q after.geometry.pages (extent_bytes before.geometry) inside (ap (λ (h : Geometry). extent_bytes h) (sym c.requires.sizes))) least
    (sym c.is_some.ensures ∙ c.if-is_some.true))

pub loop-page-preserved : goal.loop-page-preserved
loop-page-preserved g c =
    let before = g.D.PageSource.image c.args.before.now in
    let after = g.E.PageSource.image c.args.after.now in
    let q = c.loop-page.page in
    let per = after.geometry.page in
    let held = get_or c.args.pages.now q Lost in
    let stands = c.requires.held.each q held (slice_get-get_or c.args.pages.now q Lost c.loop-page-test.true) in
    let size : c.page-size.result ≡ per = c.page-size.ensures ∙ ap (λ (h : Geometry). h.page) c.geometry.ensures in
    let inside : q < after.geometry.pages = omega (arith, c.loop-page-test.true, c.requires.held.count) in
    let reached : IsRecordReach after (q + 1) c.reach_with-reach.result =
    rw c.reach_with-reach.ensures (reach_page after q held stands c.loop-page.invariant.reach) in
    let least : IsLeastWithin (q * per) (q * per + per) (IsWrittenInRecords before after) c.first_in_page-first.result =
    record_page_least before after c.requires.sizes c.in_ok-old.old c.in_ok-new.new c.in_ok-old.ensures c.in_ok-new.ensures q c.page-size.result
    c.reach_with-reach.result c.first_in_page-first.result size inside reached c.first_in_page-first.ensures in
    record {
      reach = reached;
      none = λ p low high.
          none_more (IsWrittenInRecords before after) 0 (q * per) (q * per + per) c.loop-page.invariant.none c.first_in_page-first.result least
          (sym c.is_some.ensures ∙ c.if-is_some.false) p low (omega (arith, high));
    }

pub returns : goal.returns
returns g c p w =
    let before = g.D.PageSource.image c.args.before.now in
    let after = g.E.PageSource.image c.args.after.now in
    let at : c.loop-page.page ≡ after.geometry.pages = omega (arith, c.loop-page.auto.page-end, c.loop-page-test.false, c.requires.held.count) in
    let top : c.loop-page.page * after.geometry.page ≡ extent_bytes before.geometry =
    ap (λ (n : ℕ). n * after.geometry.page) at
    ∙ (let e : after.geometry.pages * after.geometry.page ≡ after.geometry.page * after.geometry.pages = omega arith in e)
    ∙ ap (λ (h : Geometry). extent_bytes h) c.requires.sizes in
    elim (cases_lt p (extent_bytes before.geometry)) [
      | inl less ↦ c.loop-page.invariant.none p (omega arith) (omega (arith, less, top)) w
      | inr past ↦ same_past before after 0 p c.requires.sizes past w.0
    ]
