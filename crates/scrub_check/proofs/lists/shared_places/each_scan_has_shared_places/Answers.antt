use Rattle.scrub_check.proofs.OneList.{the_shared}
use Rattle.scrub_check.proofs.lists.shared_places.each_scan_has_shared_places.Goals as goal

pub returns : goal.returns
returns c = λ checked. ((the_shared checked).answer, (the_shared checked).meets)
