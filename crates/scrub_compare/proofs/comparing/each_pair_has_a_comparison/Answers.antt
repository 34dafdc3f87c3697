use Rattle.scrub_compare.proofs.Existing.{some_comparison}
use Rattle.scrub_compare.proofs.comparing.each_pair_has_a_comparison.Goals as goal

pub returns : goal.returns
returns c = some_comparison
