use Rattle.scrub_check.proofs.OneList.{some_candidates}
use Rattle.scrub_check.proofs.lists.reclaiming.each_scan_has_candidates.Goals as goal

pub returns : goal.returns
returns c = some_candidates
