use Rattle.scrub_check.proofs.OneList.{the_broken}
use Rattle.scrub_check.proofs.lists.broken.each_scan_has_broken_shards.Goals as goal

pub returns : goal.returns
returns c = λ checked. ((the_broken checked).answer, (the_broken checked).meets)
