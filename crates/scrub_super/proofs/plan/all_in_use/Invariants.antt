-- The extents in use so far.
use Rattle.std.proofs.Common.{◌≡◌, ◌≤◌}
use Rattle.scrub_super.specs.Planned.{extents_in_use}
use Rattle.scrub_super.proofs.plan.all_in_use.Given as goal

abbrev pub invariant-loop-extent : goal.invariant-loop-extent
invariant-loop-extent l = record {
  low : 1 ≤ l.extent;
  so_far : l.in_use.items ≡ extents_in_use l.extent l.retired;
}
