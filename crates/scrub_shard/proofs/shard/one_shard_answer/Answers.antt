-- What is found on an image up to its shard map is unique.
use Rattle.std.proofs.Common.{None, Some}
use Rattle.scrub_shard.proofs.OneAnswer.{one_answer}
use Rattle.scrub_shard.proofs.shard.one_shard_answer.Goals as goal

pub returns-clause-by_superblock : goal.returns-clause-by_superblock
returns-clause-by_superblock c = one_answer None

pub returns-clause-by_runs : goal.returns-clause-by_runs
returns-clause-by_runs c = λ runs. one_answer (Some runs)
