-- The law, from the list to conditions and back.
use Rattle.scrub_super.proofs.NewestRecords.{by_conditions, from_conditions, rank_by_conditions, rank_from_conditions}
use Rattle.scrub_super.proofs.choosing.choice_by_conditions.Goals as goal

pub returns-clause-choice : goal.returns-clause-choice
returns-clause-choice c = λ image choice. (by_conditions, from_conditions)

pub returns-clause-rank : goal.returns-clause-rank
returns-clause-rank c = λ image choice is n rank. (rank_by_conditions n rank, rank_from_conditions is.are n rank)
