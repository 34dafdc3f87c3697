use Rattle.std.proofs.Common.{rules}
use Rattle.scrub_pool.proofs.Steps.{forks, is_one}
use Rattle.scrub_pool.proofs.extent_queue.ExtentQueue.split.Goals as goal

pub another-other-requires-clause-rule : goal.another-other-requires-clause-rule
another-other-requires-clause-rule g c = forks _ _ (is_one _ (search rules))
