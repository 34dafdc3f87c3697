-- Each payload has the length and the digest of its locator.
use Rattle.std.proofs.Common.{None, Some}
use Rattle.scrub_shard.proofs.Contents.{bytes_are_asked_for}
use Rattle.scrub_shard.proofs.shard.bytes_are_as_the_entry_says.Goals as goal

pub returns-clause-by_superblock : goal.returns-clause-by_superblock
returns-clause-by_superblock c = bytes_are_asked_for None

pub returns-clause-by_runs : goal.returns-clause-by_runs
returns-clause-by_runs c = λ runs. bytes_are_asked_for (Some runs)
