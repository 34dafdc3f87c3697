-- Without a doubt no kind of line is there.
use Rattle.scrub_compare.proofs.Unwritten.{safe_with_itself}
use Rattle.scrub_compare.proofs.laws.what_is_unwritten_is_safe.Goals as goal

pub returns : goal.returns
returns c = safe_with_itself
