use Rattle.scrub_scan.proofs.Existing.{some_tiling}
use Rattle.scrub_scan.proofs.tiling.each_extent_has_a_tiling.Goals as goal

pub returns : goal.returns
returns c = some_tiling
