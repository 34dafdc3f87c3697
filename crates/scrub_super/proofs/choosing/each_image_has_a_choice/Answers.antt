use Rattle.scrub_super.proofs.RecordsThere.{some_choice, some_plan}
use Rattle.scrub_super.proofs.choosing.each_image_has_a_choice.Goals as goal

pub returns : goal.returns
returns c = record { choice = some_choice; plan = some_plan }
