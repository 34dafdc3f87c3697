-- The pass stays one of this queue.
use Rattle.std.proofs.Common.{◌≡◌}
use Rattle.scrub_refused_memory.proofs.pool.takes.Given as goal

abbrev pub invariant-loop-extent : goal.invariant-loop-extent
invariant-loop-extent g l = l.pass.queue ≡ l.queue
