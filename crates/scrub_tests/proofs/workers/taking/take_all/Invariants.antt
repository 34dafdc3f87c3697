-- The pass stays one of this queue, and the endless iterator goes on.
use Rattle.std.proofs.Common.{◌≡◌}
use Rattle.scrub_tests.proofs.workers.taking.take_all.Given as goal

abbrev pub invariant-loop : goal.invariant-loop
invariant-loop g l =
    (goal.iterator-loop g).can_next l.iterator' × (goal.iterator-loop g).is_finite l.iterator'
    × (l.pass.queue ≡ l.queue) × (l.pass.queue ≡ l.initial.pass.queue) × (l.pass.first ≡ l.initial.pass.first)
