use Rattle.scrub_book.proofs.Complete.{every_schedule}
use Rattle.scrub_book.proofs.pool_core.one_answer_in_every_schedule.Goals as goal

pub returns : goal.returns
returns c = every_schedule
