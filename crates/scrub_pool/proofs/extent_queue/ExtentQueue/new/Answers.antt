use Rattle.scrub_pool.proofs.Steps.{begins}
use Rattle.scrub_pool.proofs.extent_queue.ExtentQueue.new.Goals as goal

pub ruled-requires-clause-rule : goal.ruled-requires-clause-rule
ruled-requires-clause-rule g c = begins
