-- If the first has another identifier, all have, since none is below this one.
use Rattle.std.proofs.Common.{zero, true, false, ◌≡◌, sym}
use Rattle.std.specs.BinaryHeap.{heap_items}
use Rattle.std.specs.Ordering.{is_ne}
use Rattle.std.proofs.lemmas.Option.{IfSome_then}
use Rattle.list_facts.proofs.Orders.{eq_from_not_ne, not_eq_from_ne}
use Rattle.scrub_merge.specs.steps.Cursors.{Under, id_cmp}
use Rattle.scrub_merge.proofs.Heaps.{others_all, first_own}
use Rattle.scrub_merge.proofs.cursors.pop_with.Goals as goal

pub returns-then-is_ne-clause-none : goal.returns-then-is_ne-clause-none
returns-then-is_ne-clause-none c =
    let u : Under = c.in_ok-first.field-0.now in
    let other : is_ne (id_cmp u.0.0 c.args.id) ≡ true = rw (c.is_ne.ensures, c.cmp.ensures) at c.if-is_ne.true in
    others_all _ u (zero, c.in_ok-first.ensures.item.3.0, sym c.in_ok-first.ensures.lookup)
    (c.in_ok-first.ensures.greatest c.requires.order) c.requires.least (not_eq_from_ne _ other)

pub returns-clause-own : goal.returns-clause-own
returns-clause-own c =
    let u : Under = c.in_ok-first.field-0.now in
    let same : is_ne (id_cmp u.0.0 c.args.id) ≡ false = rw (c.is_ne.ensures, c.cmp.ensures) at c.if-is_ne.false in
    IfSome_then c.pop.result c.pop.ensures.top
    (λ x is. first_own (heap_items c.args.heap.now) c.args.id c.in_ok-first.ensures.item.3.0 is c.in_ok-first.ensures.lookup (eq_from_not_ne _ same))
