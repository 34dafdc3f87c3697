-- If nothing is wanted, no locator dangles; else what was found is all that is wanted.
use Rattle.std.proofs.Common.{◌≡◌, ◌∙◌, List, [], ap, arith, subst, sym}
use Rattle.std.specs.List.{filter}
use Rattle.std.proofs.lemmas.Bool.{eqb-true}
use Rattle.std.proofs.lemmas.List.{nil_from_length}
use Rattle.scrub_scan.specs.declared.standing.Standing.{Standing}
use Rattle.scrub_check.specs.declared.lists.spares.Content.{Content}
use Rattle.scrub_check.specs.Spares.{AreSpares, AreWanted, frames, is_wanted}
use Rattle.scrub_check.proofs.SpareCopies.{no_spares, spares_found}
use Rattle.scrub_check.proofs.lists.spares.Spares.of.Goals as goal

pub returns-then-is_empty : goal.returns-then-is_empty
returns-then-is_empty g c =
    let wanted = c.in_ok-wanted.wanted.items in
    let are : AreWanted c.args.checked.now wanted = rw c.in_ok-wanted_by.ensures at c.in_ok-wanted.ensures.same in
    let empty : c.in_ok-wanted.wanted.len ≡ 0 = eqb-true c.in_ok-wanted.wanted.len 0 (sym c.is_empty.ensures ∙ c.if-is_empty.true) in
    let none : wanted ≡ [] = nil_from_length wanted (omega (arith, c.in_ok-wanted.wanted.ok.0, empty)) in
    subst (λ (ss : List Standing). AreSpares c.args.all.now.extents c.args.checked.now ss) (sym c.new.ensures.items)
    (no_spares c.args.all.now.extents c.args.checked.now (rw none at are))

pub returns : goal.returns
returns g c =
    let all = c.args.all.now.extents in
    let wanted = c.in_ok-wanted.wanted.items in
    let are : AreWanted c.args.checked.now wanted = rw c.in_ok-wanted_by.ensures at c.in_ok-wanted.ensures.same in
    spares_found all c.args.checked.now wanted c.in_ok-frames_wanted.field-0.items c.in_ok-found.found.items are
    (c.in_ok-frames_wanted.ensures ∙ ap (λ (ws : List Content). filter (is_wanted ws) (frames all)) c.deref.ensures.value)
    c.in_ok-found.ensures.same
