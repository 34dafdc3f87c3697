-- One more run, whose status is known, and at the end all.
use Rattle.std.proofs.Common.{◌++◌, ◌∷◌, ◌∙◌, ◌<◌, ◌≡◌, [], List, ap, arith, get_or, length, refl, subst, sym, take}
use Rattle.std.proofs.lemmas.List.{take_all}
use Rattle.list_facts.proofs.Zips.{AllZip-at}
use Rattle.scrub_frame.specs.declared.locator.Locator.{Locator}
use Rattle.scrub_check.specs.declared.named.Named.{Named}
use Rattle.scrub_check.specs.Named.{named_by_runs}
use Rattle.scrub_check.specs.declared.statuses.status.Status.TheVariants.{OutOfRange}
use Rattle.scrub_check.specs.Status.{HasStatusIn}
use Rattle.scrub_check.specs.steps.SoundAndOthers.{IsApart}
use Rattle.scrub_check.proofs.NamedLists.{run_named, runs_more}
use Rattle.scrub_check.proofs.statuses.sound_and_others.runs_apart.Goals as goal

pub loop-number-preserved : goal.loop-number-preserved
loop-number-preserved c = λ image are.
    let plan = c.args.plan.now in
    let i = c.loop-number.number in
    let l = c.index-runs-number.result in
    let long : length c.runs-runs.result.now ≡ length plan.runs = ap (λ (ls : List Locator). length ls) c.runs-runs.ensures.runs in
    let inside : i < length plan.runs = omega (arith, long, c.loop-number-test.true) in
    let here : l ≡ get_or plan.runs i l =
    c.index-runs-number.is ∙ ap (λ (ls : List Locator). get_or ls i l) c.runs-runs.ensures.runs in
    let first = named_by_runs 0 (take i plan.runs) in
    subst (λ (ns : List Named). IsApart image plan ns c.put.new.self)
    (runs_more plan.runs i l first _ inside refl (ap (λ (x : Locator). first ++ run_named i x ∷ []) here))
    (c.in_ok-put.ensures image plan first (c.loop-number.invariant image are)
    (subst (λ (x : Locator). HasStatusIn image plan x (get_or c.args.statuses.now i OutOfRange)) (sym here)
    (AllZip-at (HasStatusIn image plan) plan.runs c.args.statuses.now i l OutOfRange inside are)))

pub returns : goal.returns
returns c = λ image are.
    let plan = c.args.plan.now in
    let long : length c.runs-runs.result.now ≡ length plan.runs = ap (λ (ls : List Locator). length ls) c.runs-runs.ensures.runs in
    subst (λ (ls : List Locator). IsApart image plan (named_by_runs 0 ls) c.loop-number.apart)
    (take_all c.loop-number.number plan.runs (omega (arith, long, c.loop-number-test.false)))
    (c.loop-number.invariant image are)
