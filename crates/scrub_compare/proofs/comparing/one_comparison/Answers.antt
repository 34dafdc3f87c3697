-- What is found in two images is unique.
use Rattle.scrub_compare.proofs.OneComparison.{one_comparison_lem}
use Rattle.scrub_compare.proofs.comparing.one_comparison.Goals as goal

pub returns : goal.returns
returns c = one_comparison_lem
