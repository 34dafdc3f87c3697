use Rattle.scrub_super.proofs.SizesThere.{some_found, some_found_in}
use Rattle.scrub_super.proofs.unknown_sizes.each_front_has_an_answer.Goals as goal

pub returns : goal.returns
returns c = record { blocks = some_found; raw = some_found_in }
