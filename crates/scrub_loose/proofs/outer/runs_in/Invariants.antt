-- The index runs in front of the place.
use Rattle.std.proofs.Common.{◌-◌, ◌≤◌, length}
use Rattle.scrub_loose.specs.steps.Held.{extent_held}
use Rattle.scrub_loose.specs.steps.Walk.{AreRunsBefore}
use Rattle.scrub_loose.proofs.outer.runs_in.Given as goal

abbrev pub invariant-loop-place : goal.invariant-loop-place
invariant-loop-place l = record {
  within : l.place ≤ length l.inside.bytes.items;
  runs : AreRunsBefore (extent_held l.inside) l.extent l.place l.found.items;
}

abbrev pub decreases-loop-place : goal.decreases-loop-place
decreases-loop-place l = length l.inside.bytes.items - l.place
