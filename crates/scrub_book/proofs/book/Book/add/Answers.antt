use Rattle.std.proofs.Common.{refl, ◌≡◌, ◌<◌, ◌∙◌, ℕ, List, true, false, Some, length, get_or, arith, sym, ap, subst, rules}
use Rattle.std.specs.List.{Contains}
use Rattle.std.specs.Option.{is_some}
use Rattle.scrub_super.specs.Plan.{pointer_of}
use Rattle.scrub_scan.specs.AllFindings.{extent_numbers}
use Rattle.scrub_book.specs.Book.{BookValue}
use Rattle.scrub_book.proofs.Places.{place_count, kept_set, added_at, double_at}
use Rattle.scrub_book.proofs.book.Book.add.Goals as goal

pub returns-in_default-clause-refused : goal.returns-in_default-clause-refused
returns-in_default-clause-refused g c = (
  refl,
  λ there. c.in_default.ensures.none
      (rw (c.planned.ensures.planned, c.extent.ensures) (subst (λ (b : BookValue g.row.D.Denot). Contains b.plan.planned c.args.found.extent) (sym c.self.view_is) there)),
)

-- the slot that was found, among the planned extents
among_planned : {ns planned : List ℕ} {e extent : ℕ} (i : ℕ) → (i < length ns) × (get_or ns i 0 ≡ e) → ns ≡ planned →
    e ≡ extent → (i < length planned) × (get_or planned i 0 ≡ extent)
among_planned i found are is =
    (omega (arith, found.0, ap length are), sym (ap (λ (ns : List ℕ). get_or ns i 0) are) ∙ found.1 ∙ is)

-- there are as many slots as planned extents
pub index-requires : goal.index-requires
index-requires g c =
    omega (
      arith,
      c.in-Some.ensures.found.0,
      ap length c.planned.ensures.planned,
      place_count (g.D.PageSource.image c.self.inside.source.now) c.self.inside.plan c.self.inside.slots.items c.self.invariant.0,
    )

pub index_mut-requires : goal.index_mut-requires
index_mut-requires g c =
    omega (
      arith,
      c.in-Some.ensures.found.0,
      ap length c.planned.ensures.planned,
      place_count (g.D.PageSource.image c.self.inside.source.now) c.self.inside.plan c.self.inside.slots.items c.self.invariant.0,
    )

pub returns-then-is_some-clause-refused : goal.returns-then-is_some-clause-refused
returns-then-is_some-clause-refused g c =
    let plan = c.self.inside.plan in
    let slots = c.self.inside.slots.items in
    let at = among_planned c.in-Some.i c.in-Some.ensures.found c.planned.ensures.planned c.extent.ensures in
    let filled : is_some (get_or slots c.in-Some.i c.index.result.now) ≡ true = search rules in
    let second = subst (λ (b : BookValue g.row.D.Denot). Contains b.plan.planned c.args.found.extent × Contains (extent_numbers b.came) c.args.found.extent) c.self.view_is
    (double_at (g.D.PageSource.image c.self.inside.source.now) plan slots c.self.invariant.0 c.planned.ensures.extents.rising c.self.inside.source.now c.in-Some.i c.args.found at.0 at.1 c.index.result.now filled) in
    (refl, second.0, second.1)

pub invariant_of-self : goal.invariant_of-self
invariant_of-self g c =
    let plan = c.self.inside.plan in
    let at = among_planned c.in-Some.i c.in-Some.ensures.found c.planned.ensures.planned c.extent.ensures in (
      kept_set (g.D.PageSource.image c.self.inside.source.now) plan c.self.inside.slots.items c.self.invariant.0
          c.planned.ensures.extents.rising c.self.inside.source.now c.in-Some.i c.args.found at.0 at.1
          (c.requires.image ∙ ap (λ (b : BookValue g.row.D.Denot). g.D.PageSource.image b.source) (sym c.self.view_is))
          (subst (λ (b : BookValue g.row.D.Denot). Contains b.plan.planned c.args.found.extent → pointer_of b.plan c.args.found.extent ≡ Some c.args.found.pointer) (sym c.self.view_is) c.requires.pointer),
      c.self.invariant.1,
    )

pub returns-clause-added : goal.returns-clause-added
returns-clause-added g c =
    let plan = c.self.inside.plan in
    let slots = c.self.inside.slots.items in
    let at = among_planned c.in-Some.i c.in-Some.ensures.found c.planned.ensures.planned c.extent.ensures in
    let empty : is_some (get_or slots c.in-Some.i c.index.result.now) ≡ false = search rules in
    rw (← c.self.view_is)
    (added_at (g.D.PageSource.image c.self.inside.source.now) plan slots c.self.invariant.0 c.planned.ensures.extents.rising c.self.inside.source.now c.in-Some.i c.args.found at.0 at.1 c.index.result.now empty)
