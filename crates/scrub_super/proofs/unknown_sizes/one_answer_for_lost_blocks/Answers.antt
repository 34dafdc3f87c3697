-- The law, by ascending lists of the same records and of the same ranges.
use Rattle.scrub_super.proofs.FoundByOwnSizes.{one_answer_lem}
use Rattle.scrub_super.proofs.unknown_sizes.one_answer_for_lost_blocks.Goals as goal

pub returns : goal.returns
returns c = one_answer_lem
