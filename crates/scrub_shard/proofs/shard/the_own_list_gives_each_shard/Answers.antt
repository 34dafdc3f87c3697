-- What a pointer allows is there under the pointer at the end, and what is on no extent is lost by any plan.
use Rattle.scrub_shard.proofs.OwnList.{has_bytes, keeps_status, same_bindings}
use Rattle.scrub_shard.proofs.shard.the_own_list_gives_each_shard.Goals as goal

pub returns-clause-map : goal.returns-clause-map
returns-clause-map c = λ image m own mapped read listed. same_bindings image m own mapped listed read

pub returns-clause-statuses : goal.returns-clause-statuses
returns-clause-statuses c = keeps_status

pub returns-clause-bytes : goal.returns-clause-bytes
returns-clause-bytes c = has_bytes
