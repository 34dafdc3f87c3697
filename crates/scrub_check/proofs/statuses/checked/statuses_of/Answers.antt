use Rattle.std.proofs.Common.{◌≡◌, ◌∙◌, List, length, arith, ap}
use Rattle.std.specs.List.{flat_map}
use Rattle.std.proofs.lemmas.Slice.Zip.{AllZip-long}
use Rattle.scrub_check.specs.declared.named.Named.{Named}
use Rattle.scrub_check.specs.steps.Open.{IsKnownBefore}
use Rattle.scrub_check.specs.Named.{named_locators, named_by_shard}
use Rattle.scrub_check.specs.Status.{HasStatusIn}
use Rattle.scrub_check.proofs.NamedLists.{runs_first}
use Rattle.scrub_check.proofs.statuses.checked.statuses_of.Goals as goal

-- the runs are among the named locators
pub put_run_statuses-requires : goal.put_run_statuses-requires
put_run_statuses-requires g c =
    let image = g.D.PageSource.image c.args.scan.now.disk.now in
    let plan = c.args.scan.now.plan.now in
    let runs : length c.args.statuses.now ≡ length plan.runs =
    AllZip-long (HasStatusIn image plan) plan.runs c.args.statuses.now c.requires in
    let long : length c.in_ok-known.known.items ≡ length (named_locators plan.runs c.args.map.now) =
    AllZip-long (IsKnownBefore image plan) c.deref.result.now c.in_ok-known.known.items c.in_ok-known.ensures
    ∙ ap (λ (ns : List Named). length ns) (c.deref.ensures.value ∙ c.in_ok-named.ensures) in
    rw c.deref_mut.ensures.value (omega (arith, runs, long, runs_first plan.runs (flat_map named_by_shard c.args.map.now) 0))
