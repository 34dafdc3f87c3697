-- What was found of what is asked for are the copies.
use Rattle.std.proofs.Common.{List, ℕ, subst, sym}
use Rattle.scrub_scan.specs.declared.standing.Standing.{Standing}
use Rattle.scrub_check.specs.Spares.{AreSpares}
use Rattle.scrub_loose.specs.Loose.{LooseValue}
use Rattle.scrub_loose.specs.steps.Asked.{AreAsked, IsSearchedFor}
use Rattle.scrub_loose.specs.steps.Search.{searched}
use Rattle.scrub_loose.proofs.CopiesFound.{copies_found}
use Rattle.scrub_loose.proofs.copies.Copies.of.Goals as goal

pub returns : goal.returns
returns g c =
    let image = g.D.PageSource.image c.args.disk.now in
    let plan = c.args.plan.now in
    let resets = c.args.resets.now in
    let all = c.args.all.now.extents in
    let checked = c.args.checked.now in
    let contents = c.in_ok-asked.asked.contents.items in
    copies_found resets image plan all checked c.spares.inside.found.items contents
    (record { frames = c.found.inside.frames.items; crowded = c.found.inside.crowded.items }) c.in_ok-among.field-0
    c.planned.ensures.extents.rising
    (subst (λ (ss : List Standing). AreSpares all checked ss) (sym c.spares.view_is) c.in_ok-spares.ensures)
    (subst (λ (ss : List Standing). AreAsked ss checked contents) (sym c.spares.view_is) c.in_ok-asked.ensures.same)
    (subst (λ (v : LooseValue). IsSearchedFor contents image (searched resets plan.planned) v) (sym c.found.view_is)
    (subst (λ (es : List ℕ). IsSearchedFor contents image (searched resets es) c.in_ok-found.found) c.planned.ensures.planned c.in_ok-found.ensures))
    c.in_ok-among.ensures
