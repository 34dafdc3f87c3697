use Rattle.std.proofs.Common.{None, length, arith, ap}
use Rattle.std.specs.Option.{is_some}
use Rattle.scrub_book.proofs.Places.{place_count, first_empty_is, none_empty, first_empty_at, has_all, least_at}
use Rattle.scrub_book.proofs.book.Book.missing.Goals as goal

pub returns-in_err-i-clause-none : goal.returns-in_err-i-clause-none
returns-in_err-i-clause-none g c =
    let slots = c.self.inside.slots.items in
    let none = first_empty_is c.in_err-i.ensures c.deref.ensures.value in
    rw (c.from_residual.ensures, ← c.self.view_is)
    (has_all (g.D.PageSource.image c.self.inside.source.now) c.self.inside.plan slots c.self.invariant.0 c.self.inside.source.now (none_empty slots (ap is_some none)))

pub bounds-planned-i : goal.bounds-planned-i
bounds-planned-i g c =
    let slots = c.self.inside.slots.items in
    let first = first_empty_is c.in_ok-i.ensures c.deref.ensures.value in
    omega (
      arith,
      (first_empty_at slots c.in_ok-i.i None first).0,
      place_count (g.D.PageSource.image c.self.inside.source.now) c.self.inside.plan slots c.self.invariant.0,
      ap length c.planned.ensures.planned,
    )

pub returns-clause-least : goal.returns-clause-least
returns-clause-least g c =
    let slots = c.self.inside.slots.items in
    let first = first_empty_is c.in_ok-i.ensures c.deref.ensures.value in
    rw (c.planned.ensures.planned, ← c.self.view_is)
    (least_at (g.D.PageSource.image c.self.inside.source.now) c.self.inside.plan slots c.self.invariant.0 c.planned.ensures.extents.rising c.self.inside.source.now c.in_ok-i.i first)
