-- One more extent, and all of them.
use Rattle.std.proofs.Common.{◌++◌, ◌∙◌, [], List, ℕ, ap, arith, subst, sym}
use Rattle.std.proofs.lemmas.List.{take_all}
use Rattle.std.proofs.lemmas.Slice.Zip.{AllZip-long}
use Rattle.scrub_loose.specs.declared.outer.FoundRun.{FoundRun}
use Rattle.scrub_loose.specs.steps.Walk.{AreRunsIn, IsWalked}
use Rattle.scrub_loose.proofs.RunsFound.{runs_in_more, runs_nowhere}
use Rattle.scrub_loose.proofs.outer.runs_of.Goals as goal

pub loop-walked-init : goal.loop-walked-init
loop-walked-init c = λ image es rising walked.
    subst (λ (rs : List FoundRun). AreRunsIn image [] rs) (sym c.new-all.ensures.items) (runs_nowhere image)

pub loop-walked-preserved : goal.loop-walked-preserved
loop-walked-preserved c = λ image es rising walked.
    runs_in_more image es c.args.each.now c.loop-walked.walked-index c.walked-item.result c.loop-walked.all.items
    c.extend_from_slice.new.self.items rising walked c.loop-walked-test.true c.walked-item.is
    (c.loop-walked.invariant image es rising walked)
    (c.in_ok-extend_from_slice.ensures.items ∙ ap (λ (rs : List FoundRun). c.loop-walked.all.items ++ rs) c.runs.ensures)

pub returns : goal.returns
returns c = λ image es rising walked.
    subst (λ (fs : List ℕ). AreRunsIn image fs c.loop-walked.all.items)
    (take_all c.loop-walked.walked-index es
    (omega (arith, c.loop-walked-test.false, AllZip-long (IsWalked image) es c.args.each.now walked)))
    (c.loop-walked.invariant image es rising walked)
