use Rattle.std.proofs.Common.{◌∙◌, ◌++◌, ap, sym}
use Rattle.std.specs.List.{flat_map}
use Rattle.std.proofs.lemmas.List.{take_all, append-nil}
use Rattle.scrub_check.specs.Named.{named_by_runs, named_by_shard}
use Rattle.scrub_check.proofs.NamedLists.{bindings_more}
use Rattle.scrub_check.proofs.named.named_locators.Goals as goal

pub loop-binding-init : goal.loop-binding-init
loop-binding-init c = sym (append-nil c.in_ok-named.named.items)

pub loop-binding-preserved : goal.loop-binding-preserved
loop-binding-preserved c =
    bindings_more c.in_ok-named.named.items c.bindings-binding-items.result.now c.loop-binding.binding-index _
    c.loop-binding.named.items c.name_shard.new.named.items
    c.loop-binding-test.true c.loop-binding.invariant
    (c.in_ok-name_shard.ensures.appended ∙ ap (λ b. c.loop-binding.named.items ++ named_by_shard b) c.binding-item.is)

pub returns : goal.returns
returns c =
    c.loop-binding.invariant
    ∙ ap (λ bs. c.in_ok-named.named.items ++ flat_map named_by_shard bs)
    (take_all c.loop-binding.binding-index c.bindings-binding-items.result.now c.loop-binding-test.false ∙ c.bindings-binding-items.ensures.bindings)
    ∙ ap (λ ns. ns ++ flat_map named_by_shard c.args.map.now)
    (c.in_ok-named.ensures ∙ ap (λ ls. named_by_runs 0 ls) c.runs.ensures.runs)
