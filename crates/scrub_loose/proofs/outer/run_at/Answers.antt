-- The bytes in memory are those of the image.
use Rattle.std.proofs.Common.{ℕ, subst, sym}
use Rattle.scrub_scan.specs.Extent.{Extent, NoFrameAt}
use Rattle.scrub_loose.specs.Outer.{IsRunThere}
use Rattle.scrub_loose.specs.steps.Search.{IsFrameHere}
use Rattle.scrub_loose.specs.steps.Walk.{IsRunFrameIn}
use Rattle.scrub_loose.proofs.RunsThere.{none_in_frame, none_without_frame, run_there}
use Rattle.scrub_loose.proofs.outer.run_at.Goals as goal

pub returns-in_default-clause-none : goal.returns-in_default-clause-none
returns-in_default-clause-none g c = λ l.
    none_without_frame (g.D.PageSource.image c.args.disk.now) c.args.extent c.args.offset l
    (subst (λ (x : Extent). NoFrameAt x c.args.offset) c.in_ok-inside.ensures.same c.in_default.ensures.none)

pub returns-in-Some-2-clause-found : goal.returns-in-Some-2-clause-found
returns-in-Some-2-clause-found g c =
    let image = g.D.PageSource.image c.args.disk.now in
    let e = c.args.extent in
    let p = c.args.offset in
    let s = c.in-Some.frame in
    subst (IsRunThere image e p) (sym c.locator_of.ensures)
    (run_there image e p s c.in-Some-2.field-0.entries c.requires.in_disk
    (subst (λ (x : Extent). IsFrameHere x e p s) c.in_ok-inside.ensures.same c.in-Some.ensures.found)
    (subst (λ (x : Extent). IsRunFrameIn x s c.in-Some-2.field-0.entries) c.in_ok-inside.ensures.same
    (rw c.in-Some-2.is at c.in_ok-run_in.ensures.run)))

pub returns-clause-none : goal.returns-clause-none
returns-clause-none g c = λ l.
    let image = g.D.PageSource.image c.args.disk.now in
    let e = c.args.extent in
    let p = c.args.offset in
    let s = c.in-Some.frame in
    none_in_frame image e p l s (subst (λ (x : Extent). IsFrameHere x e p s) c.in_ok-inside.ensures.same c.in-Some.ensures.found)
    (subst (λ (x : Extent). (n : ℕ) → ¬ IsRunFrameIn x s n) c.in_ok-inside.ensures.same (rw c.in-None.is at c.in_ok-run_in.ensures.none))
