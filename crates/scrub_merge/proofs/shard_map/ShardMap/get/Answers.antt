-- What a search among ascending identifiers finds, and that it misses none.
use Rattle.std.proofs.Common.{rules, ◌∙◌, ap}
use Rattle.std.proofs.lemmas.List.Sorted.{answers_always}
use Rattle.scrub_run.specs.declared.shard_id.ShardId.{ShardId}
use Rattle.scrub_merge.specs.Binding.{BindingValue}
use Rattle.scrub_merge.proofs.Identifiers.{id_cmp_exact}
use Rattle.scrub_merge.proofs.Maps.{none_found}
use Rattle.scrub_merge.proofs.shard_map.ShardMap.get.Goals as goal

pub returns-in-Ok-clause-found : goal.returns-in-Ok-clause-found
returns-in-Ok-clause-found c =
    let key : BindingValue → ShardId = λ b. b.id in
    ap key c.index.ensures
    ∙ id_cmp_exact _ _
    (rw c.deref.ensures.value at (c.in-Ok.ensures.position key (answers_always _ _ _ (λ f a r g k. search rules)) c.index.result.now))

pub returns-in-Err-clause-none : goal.returns-in-Err-clause-none
returns-in-Err-clause-none c = λ b among same.
    let key : BindingValue → ShardId = λ b. b.id in
    none_found c.self.inside.bindings.items c.args.id.now c.in-Err.field-0 b c.self.invariant
    (rw c.deref.ensures.value at (c.in-Err.ensures.position key (answers_always _ _ _ (λ f a r g k. search rules))))
    (rw (← c.self.view_is) at among) same
