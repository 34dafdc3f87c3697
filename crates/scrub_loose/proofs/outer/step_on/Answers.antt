-- No frame, a frame without a run, or one with a run: the next place is behind it.
use Rattle.std.proofs.Common.{◌≡◌, ◌+◌, List, arith, subst, sym}
use Rattle.scrub_loose.specs.declared.outer.FoundRun.{FoundRun}
use Rattle.scrub_loose.specs.Outer.{frame_end}
use Rattle.scrub_loose.specs.steps.Held.{extent_held}
use Rattle.scrub_loose.specs.steps.Walk.{AreRunsBefore}
use Rattle.scrub_loose.proofs.RunsFound.{runs_more, runs_over, runs_past}
use Rattle.scrub_loose.proofs.outer.step_on.Goals as goal

pub returns-in_default-clause-found : goal.returns-in_default-clause-found
returns-in_default-clause-found c = λ before.
    runs_past (extent_held c.args.inside.now) c.args.extent c.args.place c.args.found.now.items c.in_default.ensures.none before

pub returns-in_ok-push-in-Some-2-clause-found : goal.returns-in_ok-push-in-Some-2-clause-found
returns-in_ok-push-in-Some-2-clause-found c = λ before.
    let x = extent_held c.args.inside.now in
    let s = c.in-Some.frame in
    let m = c.args.place + s.length + c.overhead.result in
    let here = c.in-Some.ensures.found in
    let is : c.args.place + s.length + c.overhead.result ≡ frame_end s = omega (arith, here.at_place, c.overhead.ensures.value) in
    subst (λ (rs : List FoundRun). AreRunsBefore x c.args.extent m rs) (sym c.in_ok-push-in-Some-2.ensures.items)
    (runs_more x c.args.extent c.args.place m c.args.found.now.items s c.in-Some-2.run' here is
    (rw c.in-Some-2.is at c.in_ok-run.ensures.same) (rw c.in-Some-2.is at c.in_ok-run.ensures.run) before)

pub returns-in-None-clause-found : goal.returns-in-None-clause-found
returns-in-None-clause-found c = λ before.
    let x = extent_held c.args.inside.now in
    let s = c.in-Some.frame in
    let m = c.args.place + s.length + c.overhead.result in
    let here = c.in-Some.ensures.found in
    let is : c.args.place + s.length + c.overhead.result ≡ frame_end s = omega (arith, here.at_place, c.overhead.ensures.value) in
    runs_over x c.args.extent c.args.place m c.args.found.now.items s here is (rw c.in-None.is at c.in_ok-run.ensures.none) before
