-- Its entries are those of a run.
use Rattle.scrub_report.proofs.Indexable.{index_run}
use Rattle.scrub_report.proofs.answer.the_index_is_a_run.Goals as goal

pub returns : goal.returns
returns c image a is = (is.found, is.scrubbed, record { entries_of_run = index_run image is.found is.scrubbed; spelled = is.index })
