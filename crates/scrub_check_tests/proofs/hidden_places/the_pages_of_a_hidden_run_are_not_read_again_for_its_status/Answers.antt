-- The statuses are those of the runs that were read.
use Rattle.scrub_check_tests.proofs.hidden_places.the_pages_of_a_hidden_run_are_not_read_again_for_its_status.Goals as goal

pub check_named-requires-clause-statuses : goal.check_named-requires-clause-statuses
check_named-requires-clause-statuses g c κs = rw c.deref-2.ensures.value c.in_ok-read.ensures.statuses
