-- One extent less each time.
use Rattle.std.proofs.Common.{length}
use Rattle.scrub_scan.proofs.group.+scan_group.Given as goal

abbrev pub decreases-scan_group : goal.decreases-scan_group
decreases-scan_group g l = length l.extents.now
