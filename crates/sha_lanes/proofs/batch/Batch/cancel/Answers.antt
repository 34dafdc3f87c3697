use Rattle.std.proofs.Common.{arith, length-take, take}
use Rattle.std.proofs.lemmas.List.{drop_all}
use Rattle.sha_lanes.proofs.Gathering.{cut}
use Rattle.sha_lanes.proofs.batch.Batch.cancel.Goals as goal

pub returns : goal.returns
returns c = λ messages next held.
    let batch = c.args.self.now in
    record {
      messages_are =
          rw c.truncate.ensures.items
          (cut batch.bytes.items batch.begun batch.spans.items messages batch.spans_within held.messages_are);
      next_is = rw c.truncate.ensures.items (drop_all batch.begun (take batch.begun batch.bytes.items) (omega (arith, length-take batch.begun batch.bytes.items)));
    }
