use Rattle.std.proofs.Common.{◌∙◌, ap, subst, IfOk}
use Rattle.std.specs.List.{AllZip}
use Rattle.rayon.proofs.ToStd.{slice-AllZip}
use Rattle.list_facts.proofs.Zips.{AllZip-collected}
use Rattle.scrub_check.specs.steps.Open.{AreJudged}
use Rattle.scrub_check.proofs.statuses.by_place.judge_each_place.Goals as goal

pub returns : goal.returns
returns g c =
    let image = g.D.PageSource.image c.args.scan.now.disk.now in
    let plan = c.args.scan.now.plan.now in
    let places = c.args.places.now in
    let slice = ap (λ it. it.base.slice.now) c.map.ensures.base ∙ ap (λ it. it.slice.now) c.with_min_len.ensures.base ∙ c.par_iter.ensures in
    let h = c.in_ok-collect.ensures in
    let chain = h.1 in
    let known =
    subst
    (λ f. AllZip (λ z r. IfOk r (λ v. AreJudged (g.D.PageSource.image f.1.now.disk.now) f.1.now.plan.now f.2.now z.now.now v.items)) chain.0 h.0)
    c.map.ensures.f chain.2 in
    AllZip-collected (λ v. v.items) (λ left v. AreJudged image plan c.args.named.now left.now v.items) places h.0 c.in_ok-collect.field-0
    (slice-AllZip chain.0 places (chain.1 ∙ slice) (λ left r. IfOk r (λ v. AreJudged image plan c.args.named.now left.now v.items)) h.0 known) h.2
