-- Each crew beside one more worker has one member less.
use Rattle.std.proofs.Common.{◌+◌, ◌*◌, vec_len}
use Rattle.scrub_pool.proofs.crew.+crew.Given as goal

abbrev pub decreases-run_crew_and_worker : goal.decreases-run_crew_and_worker
decreases-run_crew_and_worker g l = 3 * vec_len l.crew + 2

abbrev pub decreases-run_crew : goal.decreases-run_crew
decreases-run_crew g l = 3 * vec_len l.new_members

abbrev pub decreases-run_crew_and_worker-join_mut+arg2 : goal.decreases-run_crew_and_worker-join_mut+arg2
decreases-run_crew_and_worker-join_mut+arg2 g l = 3 * vec_len l.crew + 1
