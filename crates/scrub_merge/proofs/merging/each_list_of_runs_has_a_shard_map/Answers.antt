use Rattle.scrub_merge.proofs.MapsThere.{some_shard_map}
use Rattle.scrub_merge.proofs.merging.each_list_of_runs_has_a_shard_map.Goals as goal

pub returns : goal.returns
returns c = some_shard_map
