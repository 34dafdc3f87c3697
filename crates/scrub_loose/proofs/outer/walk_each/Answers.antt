-- What each call found, in the order of the extents.
use Rattle.std.proofs.Common.{◌∙◌, IfOk, ap, subst}
use Rattle.std.specs.List.{AllZip}
use Rattle.rayon.proofs.ToStd.{slice-AllZip}
use Rattle.list_facts.proofs.Zips.{AllZip-collected}
use Rattle.scrub_loose.specs.steps.Walk.{IsWalked}
use Rattle.scrub_loose.proofs.outer.walk_each.Goals as goal

pub returns : goal.returns
returns g c =
    let image = g.D.PageSource.image c.args.disk.now in
    let extents = c.args.extents.now in
    let slice = ap (λ it. it.base.slice.now) c.map.ensures.base ∙ ap (λ it. it.slice.now) c.with_min_len.ensures.base ∙ c.par_iter.ensures in
    let h = c.in_ok-collect.ensures in
    let chain = h.1 in
    let known =
    subst
    (λ f. AllZip (λ z r. IfOk r (IsWalked (g.D.PageSource.image f.1.now) z.now)) chain.0 h.0)
    c.map.ensures.f chain.2 in
    AllZip-collected (λ v. v.items) (IsWalked image) extents h.0 c.in_ok-collect.field-0
    (slice-AllZip chain.0 extents (chain.1 ∙ slice) (λ e r. IfOk r (IsWalked image e)) h.0 known) h.2
