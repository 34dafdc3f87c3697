-- One more payload.
use Rattle.std.proofs.Common.{◌++◌, ap, ◌∙◌}
use Rattle.scrub_shard.proofs.Joined.{one_more}
use Rattle.scrub_shard.proofs.payloads.bytes_for.Goals as goal

pub loop-one-preserved : goal.loop-one-preserved
loop-one-preserved g c =
    one_more (g.D.PageSource.image c.args.disk.now) c.args.copies.now c.args.own.now c.loop-one.one-index c.one-item.result
    c.loop-one.bytes.items c.extend_from_slice.new.self.items c.in_ok-payload.payload.items c.loop-one-test.true c.loop-one.invariant
    c.one-item.is c.in_ok-payload.ensures
    (c.in_ok-extend_from_slice.ensures.items ∙ ap (λ more. c.loop-one.bytes.items ++ more) c.deref.ensures.value)
