-- The page is read in front of the bytes that are kept.
use Rattle.std.proofs.Common.{arith, refl, sym, ap, subst, length, ◌∙◌}
use Rattle.std.proofs.lemmas.List.{with_items_is}
use Rattle.scrub_super.specs.steps.BytesFrom.{IsReadInFront}
use Rattle.scrub_super.proofs.BytesFromPages.{page_lost, page_read}
use Rattle.scrub_super.proofs.bytes_from.BytesFrom.read.Goals as goal

pub returns-then-not-read_in_front-clause-held : goal.returns-then-not-read_in_front-clause-held
returns-then-not-read_in_front-clause-held g c =
    let kept = c.if-not-read_in_front.ensures.length ∙ c.deref_mut.ensures.len in
    let is = with_items_is c.args.self.now.bytes c.read_in_front.new.buffer kept in
    page_lost c.requires.held c.requires.in_pages
    (ap length is ∙ c.if-not-read_in_front.ensures.length ∙ ap length c.deref_mut.ensures.value)
    (c.if-not-read_in_front.ensures.lost refl) refl

pub returns-clause-held : goal.returns-clause-held
returns-clause-held g c =
    let image = g.D.PageSource.image c.args.disk.now in
    let old = c.args.self.now.bytes in
    let kept = c.if-not-read_in_front.ensures.length ∙ c.deref_mut.ensures.len in
    let is = with_items_is old c.read_in_front.new.buffer kept in
    let page = c.page-size.ensures ∙ ap (λ x. x.page) c.geometry.ensures in
    let all = c.len.ensures ∙ old.ok.0 in
    let read = rw c.deref_mut.ensures.value at (c.if-not-read_in_front.ensures.readable refl) in
    page_read c.requires.held c.requires.in_pages
    (ap length is ∙ c.if-not-read_in_front.ensures.length ∙ ap length c.deref_mut.ensures.value)
    (omega (arith, c.min-kept.ensures, all, page)) (omega (arith, page))
    (subst (λ xs. IsReadInFront image c.args.page c.min-kept.result old.items xs) (sym is) read)
