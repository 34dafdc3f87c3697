-- Binary search among ascending identifiers finds one exactly if it is there.
use Rattle.std.proofs.Common.{rules}
use Rattle.std.proofs.lemmas.List.Sorted.{answers_always}
use Rattle.scrub_run.specs.declared.shard_id.ShardId.{ShardId}
use Rattle.scrub_report.proofs.KeptEntries.{found_among}
use Rattle.scrub_report.proofs.index.is_among.Goals as goal

pub returns : goal.returns
returns c =
    let key : ShardId → ShardId = λ id. id in
    let facts = c.binary_search_by_key.ensures in
    let by_key = facts.position key (answers_always _ _ _ (λ f a r h called. search rules)) in
    found_among c.args.ids.now c.args.id c.binary_search_by_key.result c.is_ok.result c.requires facts.bound by_key c.is_ok.ensures.value
