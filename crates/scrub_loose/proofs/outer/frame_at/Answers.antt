-- Where nothing is claimed, no frame is.
use Rattle.std.proofs.Common.{length}
use Rattle.scrub_loose.specs.steps.Held.{extent_held}
use Rattle.scrub_loose.proofs.ReadableClaims.{claim_of_frame}
use Rattle.scrub_loose.proofs.outer.frame_at.Goals as goal

pub returns-in_err-head-clause-none : goal.returns-in_err-head-clause-none
returns-in_err-head-clause-none c =
    rw c.from_residual.ensures
    (λ f u b k.
    c.in_err-head.ensures.none (record { form = f; uuid = u; length = length b })
    (claim_of_frame (extent_held c.args.inside.now) c.args.place f u b k))
