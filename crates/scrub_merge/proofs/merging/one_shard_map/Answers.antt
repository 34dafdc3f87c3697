-- The law: two ascending lists with the same bindings are equal.
use Rattle.scrub_merge.proofs.Maps.{one_shard_map_lem}
use Rattle.scrub_merge.proofs.merging.one_shard_map.Goals as goal

pub returns : goal.returns
returns c = one_shard_map_lem
