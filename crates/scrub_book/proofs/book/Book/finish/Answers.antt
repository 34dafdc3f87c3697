use Rattle.std.proofs.Common.{refl, ◌≡◌, ◌∙◌, sym, ap, subst}
use Rattle.std.specs.Option.{is_some}
use Rattle.scrub_scan.specs.AllFindings.{AreAllFindings, IsOfImage}
use Rattle.scrub_book.specs.Book.{BookValue, HasAll}
use Rattle.scrub_book.proofs.Places.{first_empty_is, none_empty, has_all, not_all}
use Rattle.scrub_book.proofs.book.Book.finish.Goals as goal

pub returns-then-is_some-clause-back : goal.returns-then-is_some-clause-back
returns-then-is_some-clause-back g c =
    let slots = c.self.inside.slots.items in
    let some = ap is_some (first_empty_is c.first_empty.ensures c.deref.ensures.value) ∙ sym c.is_some.ensures ∙ c.if-is_some.true in (
      refl,
      subst (λ (b : BookValue g.row.D.Denot). ¬ HasAll b) c.self.view_is
          (not_all (g.D.PageSource.image c.self.inside.source.now) c.self.inside.plan slots c.self.invariant.0 c.self.invariant.1 c.self.inside.source.now some),
    )

pub from_slots-requires-clause-full : goal.from_slots-requires-clause-full
from_slots-requires-clause-full g c = λ κs h.
    none_empty c.self.inside.slots.items
    (ap is_some (first_empty_is c.first_empty.ensures c.deref.ensures.value) ∙ sym c.is_some.ensures ∙ c.if-is_some.false)

pub returns-clause-all : goal.returns-clause-all
returns-clause-all g c =
    let slots = c.self.inside.slots.items in
    let plan = c.self.inside.plan in
    let image = g.D.PageSource.image c.self.inside.source.now in
    let none =
    ap is_some (first_empty_is c.first_empty.ensures c.deref.ensures.value) ∙ sym c.is_some.ensures
    ∙ c.if-is_some.false in
    subst
    (λ (b : BookValue g.row.D.Denot). HasAll b × (c.from_slots.result.extents ≡ b.came) × AreAllFindings (g.D.PageSource.image b.source) b.plan c.from_slots.result.extents)
    c.self.view_is (
      has_all image plan slots c.self.invariant.0 c.self.inside.source.now (none_empty slots none),
      c.from_slots.ensures.extents,
      c.from_slots.ensures.findings image c.self.invariant.0,
    )

pub returns-clause-image : goal.returns-clause-image
returns-clause-image g c =
    subst
    (λ (b : BookValue g.row.D.Denot). IsOfImage (λ s. g.D.PageSource.image s) c.from_slots.result (g.D.PageSource.image b.source))
    c.self.view_is
    (c.from_slots.ensures.image (g.D.PageSource.image c.self.inside.source.now) c.self.invariant.0)
