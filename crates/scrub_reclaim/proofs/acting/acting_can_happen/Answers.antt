-- Small disks meet the premises.
use Rattle.scrub_reclaim.proofs.ActingCanHappen.{a_copy_can_happen, a_reset_can_happen}
use Rattle.scrub_reclaim.proofs.acting.acting_can_happen.Goals as goal

pub returns-clause-resets : goal.returns-clause-resets
returns-clause-resets c = a_reset_can_happen

pub returns-clause-copies : goal.returns-clause-copies
returns-clause-copies c = a_copy_can_happen
