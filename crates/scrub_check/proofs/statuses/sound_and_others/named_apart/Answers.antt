-- The runs come first, and the bindings of all blocks behind them.
use Rattle.std.proofs.Common.{◌++◌, ◌∙◌, List, ap, subst, sym}
use Rattle.std.specs.List.{flat_map}
use Rattle.std.proofs.lemmas.Slice.Zip.{AllZip-long}
use Rattle.scrub_check.specs.declared.named.Named.{Named}
use Rattle.scrub_check.specs.Named.{named_by_runs, named_by_shard}
use Rattle.scrub_check.specs.Status.{HasStatusIn}
use Rattle.scrub_check.specs.steps.SoundAndOthers.{IsApart}
use Rattle.scrub_check.proofs.statuses.sound_and_others.named_apart.Goals as goal

-- there are as many statuses as runs
pub runs_apart-requires : goal.runs_apart-requires
runs_apart-requires g c =
    let plan = c.args.scan.now.plan.now in
    AllZip-long (HasStatusIn (g.D.PageSource.image c.args.scan.now.disk.now) plan) plan.runs c.args.statuses.now c.requires

pub returns : goal.returns
returns g c =
    let image = g.D.PageSource.image c.args.scan.now.disk.now in
    let plan = c.args.scan.now.plan.now in
    let blocks = c.in_ok-blocks.ensures in
    subst (λ (ns : List Named). IsApart image plan (named_by_runs 0 plan.runs ++ ns) c.append_all.new.self)
    (blocks.2 ∙ ap (λ bs. flat_map named_by_shard bs) c.bindings-bindings.ensures.bindings)
    (c.in_ok-append_all.ensures image plan (named_by_runs 0 plan.runs) blocks.0 (c.in_ok-apart.ensures image c.requires)
    (rw c.deref-2.ensures.value blocks.1))
