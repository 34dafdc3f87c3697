use Rattle.scrub_map.proofs.MapLaws.{one_map}
use Rattle.scrub_map.proofs.reading.one_list_of_blocks.Goals as goal

pub returns : goal.returns
returns c = one_map
