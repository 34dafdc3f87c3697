-- One more page, and at the end all.
use Rattle.std.proofs.Common.{◌≡◌, ◌+◌, ◌*◌, ◌/◌, ℕ, true, arith, refl, sym, ◌∙◌}
use Rattle.scrub_disk.proofs.PagesRead.{page_fits}
use Rattle.scrub_compare.specs.steps.Changes.{is_refused_at}
use Rattle.scrub_compare.proofs.ChangedBytes.{page_least}
use Rattle.scrub_compare.proofs.Least.{found_here, none_more}
use Rattle.scrub_compare.proofs.bytes.first_in_extent.Goals as goal

pub loop-page-preserved : goal.loop-page-preserved
loop-page-preserved c =
    let per = c.args.geometry.page in
    let P : ℕ → Type 0 = λ p. is_refused_at c.args.old.now c.args.new.now c.args.allowed.room c.args.allowed.to (p / per) p ≡ true in
    let page = c.loop-page.page in
    λ p low high.
    none_more P 0 (page * per) (page * per + per) c.loop-page.invariant c.first_in_page-first.result
    (page_least c.args.old.now c.args.new.now c.args.allowed.room c.args.allowed.to page c.page-size.result per c.first_in_page-first.result c.page-size.ensures c.first_in_page-first.ensures)
    (sym c.is_some.ensures ∙ c.if-is_some.false) p low (omega (arith, high))

pub returns-then-is_some : goal.returns-then-is_some
returns-then-is_some c =
    let per = c.args.geometry.page in
    let P : ℕ → Type 0 = λ p. is_refused_at c.args.old.now c.args.new.now c.args.allowed.room c.args.allowed.to (p / per) p ≡ true in
    let page = c.loop-page.page in
    found_here P 0 (page * per) (page * per + per) c.loop-page.invariant (per * c.args.geometry.pages) c.first_in_page-first.result
    (omega arith) (page_fits per page c.args.geometry.pages (per * c.args.geometry.pages) (omega (arith, c.loop-page-test.true)) refl)
    (page_least c.args.old.now c.args.new.now c.args.allowed.room c.args.allowed.to page c.page-size.result per c.first_in_page-first.result c.page-size.ensures c.first_in_page-first.ensures)
    (sym c.is_some.ensures ∙ c.if-is_some.true)
