-- What a frame that is claimed at a locator's place says of the locator.
use Rattle.std.proofs.Common.{◌≡◌, ◌+◌, ℕ, Option, Some, None, MatchOption, arith, sym, ◌∙◌, ap}
use Rattle.std.proofs.lemmas.Option.{same_Some}
use Rattle.scrub_disk.specs.Image.{Image, image_byte}
use Rattle.scrub_frame.specs.declared.form.Form.TheVariants.{Plain}
use Rattle.scrub_frame.specs.declared.frame.Head.{Head}
use Rattle.scrub_frame.specs.declared.locator.Locator.{Locator}
use Rattle.scrub_frame.specs.Frame.{frame_overhead}
use Rattle.scrub_super.specs.Plan.{PlanValue, pointer_of}
use Rattle.scrub_scan.specs.Extent.{extent_of, NoFrameAt, HasGap}
use Rattle.scrub_scan.specs.Standing.{IsClaimedAt}
use Rattle.scrub_scan.proofs.Claims.{only_frame, plain_frame}
use Rattle.scrub_scan.proofs.FrameBytes.{no_gap}
use Rattle.scrub_check.specs.declared.places.chunk_at.ChunkAt.{ChunkAt}
use Rattle.scrub_check.specs.declared.statuses.status.Status.{Status}
use Rattle.scrub_check.specs.declared.statuses.status.Status.TheVariants.{NoFrame}
use Rattle.scrub_check.specs.steps.StatusByFrame.{IsStatusByClaim}
use Rattle.scrub_check.specs.steps.Places.{place_named_by}
use Rattle.scrub_check.specs.steps.Open.{IsOpen, IsReadableClaim, IsClaimSeen}
use Rattle.scrub_check.specs.Status.{CanStand, HasStatus, HasStatusIn}
use Rattle.scrub_check.proofs.StatusByFrame.{status_under, other_frame}

by_claim : (image : Image) (w : ℕ) (l : Locator) (found : Option Head) (known : Option Status) (s : Status) →
    CanStand image w l →
    MatchOption found (NoFrameAt (extent_of image l.extent w) l.offset) (IsReadableClaim (extent_of image l.extent w) l.offset) →
    IsStatusByClaim l found known → known ≡ Some s → HasStatus image w l s
by_claim image w l None known s can none by is = rw (← (same_Some NoFrame s (sym by ∙ is))) (can, none)
by_claim image w l (Some h) known s can claim by is =
    let other = rw is at by in
    let f = plain_frame (extent_of image l.extent w) l.offset h claim.claimed other.0 claim.readable in
    other_frame image w l h.uuid f.payload h.length s (record { can = can; form = Plain; frame = f.frame }) f.length other.1

-- so the status by the claim is the status
pub judged_by_claim : (image : Image) (plan : PlanValue) (l : Locator) (found : Option Head) (known : Option Status) (s : Status) →
    IsOpen image plan l → IsClaimSeen image plan (place_named_by l) found →
    IsStatusByClaim l found known → known ≡ Some s → HasStatusIn image plan l s
judged_by_claim image plan l found known s left seen by is =
    status_under image plan left.pointer l s left.in_use left.is
    (by_claim image left.pointer l found known s left.can (seen left.pointer left.is) by is)

-- a claimed frame with a byte that can't be read is none
pub gap_is_no_frame : (image : Image) (p : ChunkAt) (w : ℕ) (h : Head) → IsClaimedAt (extent_of image p.extent w) p.offset h →
    HasGap (image_byte image p.extent) p.offset (h.length + frame_overhead h.form) → NoFrameAt (extent_of image p.extent w) p.offset
gap_is_no_frame image p w h claim gap = λ f u b k.
    let is = only_frame (extent_of image p.extent w) p.offset h claim f u b k in
    let round : frame_overhead h.form ≡ frame_overhead f = ap frame_overhead is.0 in
    no_gap (extent_of image p.extent w) p.offset (h.length + frame_overhead h.form) f u b k (omega (arith, is.2, round)) gap

-- what holds under the pointer that was found holds under the plan's
pub under_plan : (image : Image) (plan : PlanValue) (p : ChunkAt) (v : ℕ) (found : Option Head) → pointer_of plan p.extent ≡ Some v →
    MatchOption found (NoFrameAt (extent_of image p.extent v) p.offset) (IsReadableClaim (extent_of image p.extent v) p.offset) →
    IsClaimSeen image plan p found
under_plan image plan p v found at is = λ w there. rw (← same_Some v w (sym at ∙ there)) is
