use Rattle.scrub_map.proofs.MapLines.{read_none}
use Rattle.scrub_map.proofs.reading.Reading.new.Goals as goal

pub returns-clause-read : goal.returns-clause-read
returns-clause-read c = read_none _ c.new.ensures.kept
