-- What the threads collect is right for each locator that the plan names.
use Rattle.std.proofs.Common.{◌∙◌, IfOk, ap, subst}
use Rattle.std.specs.List.{AllZip}
use Rattle.rayon.proofs.ToStd.{slice-AllZip}
use Rattle.list_facts.proofs.Zips.{AllZip-collected}
use Rattle.scrub_check.specs.steps.RunWithStatus.{IsRunWithStatus}
use Rattle.scrub_check.specs.Runs.{AreReadRuns}
use Rattle.scrub_check.proofs.Listed.{are_read, have_statuses, counted}
use Rattle.scrub_check.proofs.runs.read_all_runs.Given.{Over}
use Rattle.scrub_check.proofs.runs.read_all_runs.Goals as goal

all_judged : (g : Over) (c : goal.In_ok-runs g) →
    AllZip (IsRunWithStatus (g.D.PageSource.image c.args.disk.now) c.args.plan.now) c.args.plan.now.runs c.in_ok-judged.judged.items
all_judged g c =
    let IsJudged = IsRunWithStatus (g.D.PageSource.image c.args.disk.now) c.args.plan.now in
    let runs = c.args.plan.now.runs in
    let slice =
    ap (λ it. it.base.slice.now) c.map.ensures.base ∙ ap (λ it. it.slice.now) c.with_min_len.ensures.base ∙ c.par_iter.ensures
    ∙ c.runs-locators.ensures.runs in
    let h = c.in_ok-collect.ensures in
    let chain = h.1 in
    let given =
    subst (λ f. AllZip (λ z r. IfOk r (IsRunWithStatus (g.D.PageSource.image f.1.now) f.2.now z.now)) chain.0 h.0)
    c.map.ensures.f chain.2 in
    let tried = slice-AllZip chain.0 runs (chain.1 ∙ slice) (λ l r. IfOk r (IsJudged l)) h.0 given in
    let each : IfOk c.in_ok-collect.field-0 (λ v. AllZip IsJudged runs v.items) =
    AllZip-collected (λ v. v.items) IsJudged runs h.0 c.in_ok-collect.field-0 tried h.2 in
    subst (λ r. IfOk r (λ v. AllZip IsJudged runs v.items)) c.in_ok-judged.was each

all_read : (g : Over) (c : goal.In_ok-runs g) → AreReadRuns (g.D.PageSource.image c.args.disk.now) c.args.plan.now
    (record { runs = c.in_ok-runs.runs.items; states = c.in_ok-runs.states.items })
all_read g c =
    are_read (g.D.PageSource.image c.args.disk.now) c.args.plan.now c.in_ok-judged.judged.items c.in_ok-runs.runs.items
    c.in_ok-runs.states.items c.in_ok-runs.ensures.runs c.in_ok-runs.ensures.states (all_judged g c)

pub invariant_of-result : goal.invariant_of-result
invariant_of-result g c =
    counted (g.D.PageSource.image c.args.disk.now) c.args.plan.now _ c.runs-locators.ensures.located.count (all_read g c)

pub returns : goal.returns
returns g c = record {
  runs = all_read g c;
  statuses = have_statuses (g.D.PageSource.image c.args.disk.now) c.args.plan.now c.in_ok-judged.judged.items c.in_ok-runs.statuses.items
      c.in_ok-runs.ensures.statuses (all_judged g c);
}
