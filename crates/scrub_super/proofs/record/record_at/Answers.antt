-- Why there is no record if a test fails, and that there is one if none does.
use Rattle.std.proofs.Common.{arith}
use Rattle.scrub_super.proofs.Refused.{too_short, over_limit, not_extents, other_digest}
use Rattle.scrub_super.proofs.Found.{record_found}
use Rattle.scrub_super.proofs.record.record_at.Goals as goal

pub returns-in_err-head-clause-none : goal.returns-in_err-head-clause-none
returns-in_err-head-clause-none c = rw c.from_residual.ensures c.in_err-head.ensures.none

pub returns-then-bytes-size-clause-none : goal.returns-then-bytes-size-clause-none
returns-then-bytes-size-clause-none c =
    λ d b. too_short c.in_ok-head.ensures.found b c.body_len-size.ensures c.if-bytes-size.true

pub returns-then-not-are_within-clause-none : goal.returns-then-not-are_within-clause-none
returns-then-not-are_within-clause-none c = λ d b.
    over_limit c.in_ok-head.ensures.found b c.parts_of-parts.ensures.pointers c.extent_bytes.ensures c.are_within.ensures.1
    c.if-not-are_within.true

pub returns-then-not-are_extents-clause-none : goal.returns-then-not-are_extents-clause-none
returns-then-not-are_extents-clause-none c = λ d b.
    not_extents c.in_ok-head.ensures.found b c.parts_of-parts.ensures.retired c.extents.ensures c.are_extents.ensures.1
    c.if-not-are_extents.true

pub returns-then-not-has_digest-clause-none : goal.returns-then-not-has_digest-clause-none
returns-then-not-has_digest-clause-none c = λ d b.
    other_digest c.in_ok-head.ensures.found b c.body_len-size.ensures c.split_at.ensures.front c.split_at.ensures.back
    c.has_digest.ensures.1 c.if-not-has_digest.true

pub returns-clause-found : goal.returns-clause-found
returns-clause-found c =
    record_found c.args.bytes.now (λ i. omega (arith, c.type_inv.bytes i)) c.in_ok-head.ensures.found
    c.body_len-size.ensures c.if-bytes-size.false c.parts_of-parts.ensures.pointers c.parts_of-parts.ensures.retired
    c.split_at.ensures.front c.split_at.ensures.back c.extent_bytes.ensures (c.are_within.ensures.0 c.if-not-are_within.false)
    c.extents.ensures (c.are_extents.ensures.0 c.if-not-are_extents.false)
    (c.has_digest.ensures.0 c.if-not-has_digest.false)
