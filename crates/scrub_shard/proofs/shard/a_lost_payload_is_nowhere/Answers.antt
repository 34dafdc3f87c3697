-- A locator without a copy asks for what is nowhere, and what is nowhere has none.
use Rattle.std.proofs.Common.{None, Some}
use Rattle.scrub_shard.proofs.Nowhere.{lost_is_nowhere}
use Rattle.scrub_shard.proofs.shard.a_lost_payload_is_nowhere.Goals as goal

pub returns-clause-by_superblock : goal.returns-clause-by_superblock
returns-clause-by_superblock c = λ image id number. lost_is_nowhere None image id number tt

pub returns-clause-by_runs : goal.returns-clause-by_runs
returns-clause-by_runs c = λ runs image id number few each. lost_is_nowhere (Some runs) image id number (record { count = few; each = each })
