use Rattle.sha_lanes.proofs.Gathering.{digests_alone, digests_are}
use Rattle.sha_lanes.proofs.batch.Batch.digests.Goals as goal

pub returns-then-has_most : goal.returns-then-has_most
returns-then-has_most c = λ messages next held.
    rw (← (digests_alone c.args.self.now.bytes.items c.args.self.now.spans.items messages held.messages_are))
    (rw (c.deref-then-has_most.ensures.value, c.deref-then-has_most-2.ensures.value) at c.one_by_one.ensures)

pub returns : goal.returns
returns c = λ messages next held.
    rw (← (digests_are c.args.self.now.bytes.items c.args.self.now.spans.items messages held.messages_are))
    (rw (c.deref-2.ensures.value, c.deref-3.ensures.value) at c.digests.ensures)
