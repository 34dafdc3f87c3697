-- What was scanned is that of the image.
use Rattle.std.proofs.Common.{[], None}
use Rattle.scrub_compare.proofs.comparing.judged_with_pages.Goals as goal

pub judged_of-requires-after_bounds : goal.judged_of-requires-after_bounds
judged_of-requires-after_bounds g c κs within = c.in_ok-scan.ensures.scan.whole

pub returns-clause-judged : goal.returns-clause-judged
returns-clause-judged g c = rw c.in_ok-scan.ensures.image at (c.in_ok-judged.ensures.judged None [] c.in_ok-scan.ensures.scan)
