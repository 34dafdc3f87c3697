-- A fault is reported, and nothing is written to the output.
use Rattle.std.proofs.Common.{inr}
use Rattle.std.proofs.KnownBytes.{Keeps-refl}
use Rattle.scrub_cli.proofs.running.run_telling.Goals as goal

pub returns-in-Err : goal.returns-in-Err
returns-in-Err g c = inr (
  c.in-Err.fault,
  c.in-Err.ensures,
  record {
    kept = Keeps-refl (g.O.Write.contents c.args.out.now);
    reported = c.end.ensures;
  },
)
