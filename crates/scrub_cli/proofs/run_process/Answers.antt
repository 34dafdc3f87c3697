-- The run got the arguments after the program's name; or the fault was reported, and nothing was written to the output.
use Rattle.std.proofs.Common.{is_ok}
use Rattle.std.proofs.KnownBytes.{Keeps-refl}
use Rattle.scrub_cli.proofs.run_process.Goals as goal
use Rattle.scrub_cli.proofs.run_process.Goals.{in-Ok, in-Err+in-Help-1, in-Err+in-Args-1, in-Err+in-NotUtf8-1}

pub returns : goal.returns
returns g c = elim c.match-args.branch [
  | in-Ok w ↦
      rw (w.in-Ok.is, c.from.ensures, w.status-is, w.out-is, w.err-is)
      (rw (w.without_program_name.ensures, w.deref.ensures.value) at w.run_args-status.ensures)
  | in-Err+in-Help-1 w ↦
      rw (w.in-Err.is, c.from.ensures, w.status-is, w.out-is, w.err-is)
      (is_ok w.end.result.1, record { kept = Keeps-refl (g.O.Write.contents c.args.out.now); reported = w.end.ensures })
  | in-Err+in-Args-1 w ↦
      rw (w.in-Err.is, c.from.ensures, w.status-is, w.out-is, w.err-is)
      (is_ok w.end.result.1, record { kept = Keeps-refl (g.O.Write.contents c.args.out.now); reported = w.end.ensures })
  | in-Err+in-NotUtf8-1 w ↦
      rw (w.in-Err.is, c.from.ensures, w.status-is, w.out-is, w.err-is)
      (is_ok w.end.result.1, record { kept = Keeps-refl (g.O.Write.contents c.args.out.now); reported = w.end.ensures })
]
