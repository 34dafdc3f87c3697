-- Without resets it is what was found, and else it is made of that.
use Rattle.std.proofs.Common.{None}
use Rattle.scrub_compare.proofs.comparing.judged_after.Goals as goal

pub scan_as_reset-requires-clause-scan : goal.scan_as_reset-requires-clause-scan
scan_as_reset-requires-clause-scan g c κs within = c.requires.found_after.scanned

pub judged_of-requires-after_bounds : goal.judged_of-requires-after_bounds
judged_of-requires-after_bounds g c κs within = c.in_ok-scan.ensures.scan.whole

pub returns : goal.returns
returns g c = rw c.in_ok-scan.ensures.image at (c.judged_of.ensures.judged None c.args.resets.now c.in_ok-scan.ensures.scan)
