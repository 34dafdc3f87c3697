use Rattle.std.proofs.Common.{◌∙◌, List, Option, ap, sym, subst}
use Rattle.std.specs.List.{AllZip}
use Rattle.rayon.proofs.ToStd.{slice-AllZip}
use Rattle.scrub_check.specs.declared.statuses.status.Status.{Status}
use Rattle.scrub_check.specs.steps.Open.{IsKnownBefore}
use Rattle.scrub_check.proofs.statuses.checked.known_by_findings.Goals as goal

pub returns : goal.returns
returns g c =
    let image = g.D.PageSource.image c.args.scan.now.disk.now in
    let plan = c.args.scan.now.plan.now in
    let named = c.args.named.now in
    let slice = ap (λ it. it.slice.now) c.map.ensures.base ∙ c.par_iter.ensures in
    let h = c.in_ok-known.ensures in
    let chain = h.1 in
    let given =
    subst (λ f. AllZip (λ z r. IsKnownBefore (g.D.PageSource.image f.0.now.disk.now) f.0.now.plan.now z.now r) chain.0 h.0)
    c.map.ensures.f chain.2 in
    let each = slice-AllZip chain.0 named (chain.1 ∙ slice) (IsKnownBefore image plan) h.0 given in
    subst (λ (os : List (Option Status)). AllZip (IsKnownBefore image plan) named os) (sym h.2) each
