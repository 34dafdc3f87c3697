-- The shard map has an entry of the shard, or none.
use Rattle.std.proofs.lemmas.Result.{IfOk-weaker}
use Rattle.scrub_shard.specs.Shard.{IsEntryAnswer, IsMappedFrom, IsShardAnswerFrom, Mapped}
use Rattle.scrub_shard.proofs.Answered.{answered_in}
use Rattle.scrub_shard.proofs.shard.shard_of.Goals as goal

pub returns-in-Some : goal.returns-in-Some
returns-in-Some g c = λ given scanned.
    let image = g.D.PageSource.image c.args.scan.disk.now in
    let found : Mapped = record {
      choice = c.args.scan.chosen;
      plan = c.args.scan.plan;
      all = c.args.scan.all.extents;
      read = c.in_ok-read.read;
      bindings = c.in_ok-map.map;
    } in
    let mapped : IsMappedFrom given image found = record {
      choice = scanned.chosen;
      plan = scanned.planned;
      all = scanned.scanned;
      read = c.in_ok-read.ensures.runs;
      bindings = rw (c.deref.ensures.value, c.into_parts-runs.ensures.runs) at c.in_ok-map.ensures;
    } in
    IfOk-weaker c.entry_answer.result (IsEntryAnswer image c.args.scan.plan c.args.scan.all.extents c.in-Some.binding.now)
    (IsShardAnswerFrom given image c.args.id)
    (λ a of_entry. record {
      found = found;
      mapped = mapped;
      answer =
          answered_in image found c.args.id c.in-Some.binding.now a
          (record { among = c.in-Some.ensures.among; named = c.in-Some.ensures.found }) of_entry;
    })
    c.entry_answer.ensures

pub returns : goal.returns
returns g c = λ given scanned. record {
  found = record {
    choice = c.args.scan.chosen;
    plan = c.args.scan.plan;
    all = c.args.scan.all.extents;
    read = c.in_ok-read.read;
    bindings = c.in_ok-map.map;
  };
  mapped = record {
    choice = scanned.chosen;
    plan = scanned.planned;
    all = scanned.scanned;
    read = c.in_ok-read.ensures.runs;
    bindings = rw (c.deref.ensures.value, c.into_parts-runs.ensures.runs) at c.in_ok-map.ensures;
  };
  answer = λ b bound. c.in-None.ensures.none b bound.among bound.named;
}
