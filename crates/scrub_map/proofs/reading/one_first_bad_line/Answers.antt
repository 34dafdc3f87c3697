use Rattle.scrub_map.proofs.MapLaws.{no_bad_line, one_bad_line}
use Rattle.scrub_map.proofs.reading.one_first_bad_line.Goals as goal

pub returns : goal.returns
returns c = record { none = no_bad_line; one = one_bad_line }
