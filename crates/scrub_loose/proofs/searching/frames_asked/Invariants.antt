-- The frames at the places so far.
use Rattle.scrub_check.specs.Spares.{is_wanted}
use Rattle.scrub_loose.specs.steps.Held.{extent_held}
use Rattle.scrub_loose.specs.steps.Search.{AreFramesBefore}
use Rattle.scrub_loose.proofs.searching.frames_asked.Given as goal

abbrev pub invariant-loop-place : goal.invariant-loop-place
invariant-loop-place l = AreFramesBefore (is_wanted l.asked.contents.items) (extent_held l.inside) l.extent l.place l.frames.items
