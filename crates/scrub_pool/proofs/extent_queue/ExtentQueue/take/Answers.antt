use Rattle.std.proofs.Common.{arith}
use Rattle.scrub_pool.proofs.Steps.{takes, all_taken}
use Rattle.scrub_pool.proofs.extent_queue.ExtentQueue.take.Goals as goal

pub pop_as-requires-clause-rule : goal.pop_as-requires-clause-rule
pop_as-requires-clause-rule g c =
    (takes _ _ (omega (arith, c.pass.invariant.one)), all_taken _ _ (omega (arith, c.pass.invariant.one)))
