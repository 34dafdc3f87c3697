-- One more place, with a frame that is asked for or without.
use Rattle.std.proofs.Common.{◌∙◌, ◌+◌, List, ap, subst, sym}
use Rattle.scrub_scan.specs.declared.standing.Standing.{Standing}
use Rattle.scrub_check.specs.Spares.{is_wanted}
use Rattle.scrub_loose.specs.steps.Held.{extent_held}
use Rattle.scrub_loose.specs.steps.Search.{AreFramesBefore}
use Rattle.scrub_loose.proofs.FoundFrames.{frames_more, frames_none, frames_same}
use Rattle.scrub_loose.proofs.searching.frames_asked.Goals as goal
use Rattle.scrub_loose.proofs.searching.frames_asked.Goals.{in-Some+in_ok-push-in-Some, in-None}

pub loop-place-init : goal.loop-place-init
loop-place-init c =
    rw c.new-frames.ensures.items (frames_none (is_wanted c.args.asked.now.contents.items) (extent_held c.args.inside.now) c.args.extent)

pub loop-place-preserved : goal.loop-place-preserved
loop-place-preserved c =
    let test = is_wanted c.args.asked.now.contents.items in
    let x = extent_held c.args.inside.now in
    let n = c.loop-place.place in
    let frames = c.loop-place.frames.items in
    elim c.match-asked_at.branch [
      | in-Some+in_ok-push-in-Some w ↦
          subst (λ (fs : List Standing). AreFramesBefore test x c.args.extent (n + 1) fs)
          (sym (ap (λ v. v.items) w.frames-is ∙ w.in_ok-push-in-Some.ensures.items))
          (frames_more test x c.args.extent n frames w.in-Some.frame c.loop-place.invariant w.in-Some.ensures.found w.in-Some.ensures.passes)
      | in-None w ↦
          subst (λ (fs : List Standing). AreFramesBefore test x c.args.extent (n + 1) fs) (sym (ap (λ v. v.items) w.frames-is))
          (frames_same test x c.args.extent n frames c.loop-place.invariant w.in-None.ensures.none)
    ]
