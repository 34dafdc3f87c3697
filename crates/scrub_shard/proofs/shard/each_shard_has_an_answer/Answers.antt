use Rattle.std.proofs.Common.{None, Some}
use Rattle.scrub_shard.proofs.Existing.{some_shard_answer}
use Rattle.scrub_shard.proofs.shard.each_shard_has_an_answer.Goals as goal

pub returns-clause-by_superblock : goal.returns-clause-by_superblock
returns-clause-by_superblock c = λ image id. some_shard_answer None image id tt

pub returns-clause-by_runs : goal.returns-clause-by_runs
returns-clause-by_runs c = λ runs image id few each. some_shard_answer (Some runs) image id (record { count = few; each = each })
