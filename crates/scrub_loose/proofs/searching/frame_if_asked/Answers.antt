-- The frame at the place is that of the claim.
use Rattle.std.proofs.Common.{◌∙◌, ap, sym}
use Rattle.scrub_check.specs.Spares.{is_wanted}
use Rattle.scrub_loose.specs.steps.Held.{extent_held}
use Rattle.scrub_loose.proofs.AskedContents.{length_not_asked}
use Rattle.scrub_loose.proofs.FoundFrames.{frame_here, length_here, none_here}
use Rattle.scrub_loose.proofs.searching.frame_if_asked.Goals as goal

pub returns-then-not-has_length-clause-none : goal.returns-then-not-has_length-clause-none
returns-then-not-has_length-clause-none c =
    λ s here.
    length_not_asked c.args.asked.now s c.args.head.now.length c.requires.asked
    (length_here (extent_held c.args.inside.now) c.args.extent c.args.place c.args.head.now s c.requires.claim here)
    (sym c.has_length.ensures ∙ c.if-not-has_length.true)

pub returns-in_err-frame-clause-none : goal.returns-in_err-frame-clause-none
returns-in_err-frame-clause-none c =
    rw c.from_residual.ensures
    (λ s here. absurd (none_here (extent_held c.args.inside.now) c.args.extent c.args.place s c.in_err-frame.ensures.none here))

pub returns-then-not-has_payload-clause-none : goal.returns-then-not-has_payload-clause-none
returns-then-not-has_payload-clause-none c =
    λ s here.
    ap (is_wanted c.args.asked.now.contents.items)
    (frame_here (extent_held c.args.inside.now) c.args.extent c.args.place s c.in_ok-frame.frame here c.in_ok-frame.ensures.found)
    ∙ sym c.has_payload.ensures ∙ c.if-not-has_payload.true
