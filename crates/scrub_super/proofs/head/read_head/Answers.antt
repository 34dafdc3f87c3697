-- Which head a front begins, and that no record begins without one.
use Rattle.std.proofs.Common.{arith}
use Rattle.scrub_super.proofs.Refused.{no_front, too_few}
use Rattle.scrub_super.proofs.Heads.{listing_head}
use Rattle.scrub_super.proofs.head.read_head.Goals as goal

pub returns-in_err-first-clause-none : goal.returns-in_err-first-clause-none
returns-in_err-first-clause-none c =
    rw c.from_residual.ensures (λ d b. too_few (omega (arith, c.in_err-first.ensures.cases)) b)

pub returns-in_err-count-in-Ssb2-clause-none : goal.returns-in_err-count-in-Ssb2-clause-none
returns-in_err-count-in-Ssb2-clause-none c =
    rw c.from_residual-in_err-count-in-Ssb2.ensures
    (λ d b. too_few (omega (arith, c.in_err-count-in-Ssb2.ensures.cases, c.in_ok-first.ensures.cases.2)) b)

pub returns-in_err-kind-clause-none : goal.returns-in_err-kind-clause-none
returns-in_err-kind-clause-none c =
    rw c.from_residual-in_err-kind.ensures (λ d b. no_front c.in_ok-first.ensures.cases.0 c.in_err-kind.ensures.none b)

pub returns-in_ok-count-in-Ssb2-clause-found : goal.returns-in_ok-count-in-Ssb2-clause-found
returns-in_ok-count-in-Ssb2-clause-found c =
    listing_head c.args.bytes.now c.in_ok-kind.ensures.found c.in-Ssb2.is c.in_ok-first.ensures.cases.0 c.in_ok-first.ensures.cases.1
    c.in_ok-count-in-Ssb2.ensures.cases (λ i. omega (arith, c.type_inv.bytes i)) c.read_u16.ensures
