use Rattle.scrub_map.proofs.MapLaws.{one_marking}
use Rattle.scrub_map.proofs.reading.one_list_of_lost_blocks.Goals as goal

pub returns : goal.returns
returns c = one_marking
