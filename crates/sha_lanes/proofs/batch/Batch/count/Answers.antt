use Rattle.std.proofs.Common.{arith}
use Rattle.sha_lanes.proofs.Gathering.{same_count}
use Rattle.sha_lanes.proofs.batch.Batch.count.Goals as goal

pub returns : goal.returns
returns c = λ messages next held.
    omega (arith, same_count c.args.self.now.bytes.items c.args.self.now.spans.items messages held.messages_are)
