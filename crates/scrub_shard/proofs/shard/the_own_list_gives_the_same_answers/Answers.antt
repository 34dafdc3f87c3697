-- The same payloads are lost, since both kinds of loss are those of payloads on no extent.
use Rattle.scrub_shard.proofs.OwnAnswers.{are_alike}
use Rattle.scrub_shard.proofs.OwnList.{same_runs}
use Rattle.scrub_shard.proofs.shard.the_own_list_gives_the_same_answers.Goals as goal

pub returns-clause-answers : goal.returns-clause-answers
returns-clause-answers c = are_alike

pub returns-clause-runs : goal.returns-clause-runs
returns-clause-runs c = λ image m own mapped read listed. same_runs image m own mapped listed read
