use Rattle.scrub_found.proofs.Existing.{some_scrub}
use Rattle.scrub_found.proofs.judging.each_image_has_findings_under_resets.Goals as goal

pub returns : goal.returns
returns c = some_scrub
