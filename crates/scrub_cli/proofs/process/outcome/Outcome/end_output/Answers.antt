-- The lines were written, and then the text of the fault was begun; or only the lines were begun.
use Rattle.std.proofs.Common.{is_ok}
use Rattle.scrub_cli.proofs.Appending.{front_stays, gets_then}
use Rattle.scrub_cli.proofs.process.outcome.Outcome.end_output.Goals as goal

pub returns-in-Ok : goal.returns-in-Ok
returns-in-Ok g c = record {
  status = c.end.ensures.status;
  text = gets_then (is_ok c.end.result.1) _ _ _ _ _ (rw c.lines_before.ensures at c.in-Ok.ensures.whole) c.end.ensures.text;
}

pub returns : goal.returns
returns g c = record {
  status = c.status.ensures;
  text = front_stays _ _ _ _ (rw c.lines_before.ensures at c.write_out.ensures.front);
}
