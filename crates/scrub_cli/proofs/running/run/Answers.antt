-- The status is that of the run, whether or not all was told.
use Rattle.std.proofs.Common.{is_ok}
use Rattle.scrub_cli.proofs.running.run.Goals as goal

pub returns : goal.returns
returns g c = (is_ok c.run_telling.result.1, c.run_telling.ensures)
