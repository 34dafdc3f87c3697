-- The candidates are safe, and what they keep is moved.
use Rattle.scrub_reclaim.proofs.Clear.{safe_to_reclaim}
use Rattle.scrub_reclaim.proofs.reclaiming.reclaiming_is_safe.Goals as goal

pub returns : goal.returns
returns c = safe_to_reclaim
