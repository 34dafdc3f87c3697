-- Where nothing is claimed, no frame is.
use Rattle.scrub_loose.specs.steps.Held.{extent_held}
use Rattle.scrub_loose.proofs.FoundFrames.{unclaimed}
use Rattle.scrub_loose.proofs.searching.asked_at.Goals as goal

pub returns-in_err-head-clause-none : goal.returns-in_err-head-clause-none
returns-in_err-head-clause-none c =
    rw c.from_residual.ensures
    (λ s here. absurd (unclaimed (extent_held c.args.inside.now) c.args.extent c.args.place s c.in_err-head.ensures.none here))
