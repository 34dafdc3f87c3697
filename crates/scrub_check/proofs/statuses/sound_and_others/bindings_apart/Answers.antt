-- One more binding, and at the end all.
use Rattle.std.proofs.Common.{◌++◌, List, [], ap, refl, subst, take}
use Rattle.std.specs.List.{flat_map}
use Rattle.std.proofs.lemmas.List.{take_all}
use Rattle.scrub_merge.specs.Binding.{BindingValue}
use Rattle.scrub_check.specs.declared.named.Named.{Named}
use Rattle.scrub_check.specs.Named.{named_by_shard}
use Rattle.scrub_check.specs.steps.SoundAndOthers.{IsApart}
use Rattle.scrub_check.proofs.NamedLists.{bindings_more}
use Rattle.scrub_check.proofs.statuses.sound_and_others.bindings_apart.Goals as goal

pub loop-binding-preserved : goal.loop-binding-preserved
loop-binding-preserved g c =
    let image = g.D.PageSource.image c.args.scan.now.disk.now in
    let plan = c.args.scan.now.plan.now in
    let bs = c.args.bindings.now in
    let i = c.loop-binding.binding-index in
    let first = flat_map named_by_shard (take i bs) in
    subst (λ (ns : List Named). IsApart image plan ns c.put_shard.new.self)
    (bindings_more [] bs i c.binding-item.result first _ c.loop-binding-test.true refl (ap (λ (b : BindingValue). first ++ named_by_shard b) c.binding-item.is))
    (c.in_ok-put_shard.ensures first c.loop-binding.invariant)

pub returns : goal.returns
returns g c =
    let image = g.D.PageSource.image c.args.scan.now.disk.now in
    subst (λ (bs : List BindingValue). IsApart image c.args.scan.now.plan.now (flat_map named_by_shard bs) c.loop-binding.apart)
    (take_all c.loop-binding.binding-index c.args.bindings.now c.loop-binding-test.false) c.loop-binding.invariant
