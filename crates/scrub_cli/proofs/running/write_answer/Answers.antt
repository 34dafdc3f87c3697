-- The whole answer was written, or the fault of the output is reported.
use Rattle.std.proofs.Common.{inl, inr}
use Rattle.scrub_cli.specs.Outcome.{Warns}
use Rattle.scrub_cli.proofs.Appending.{by_call}
use Rattle.scrub_cli.proofs.running.write_answer.Goals as goal

pub returns-in-Ok : goal.returns-in-Ok
returns-in-Ok g c = inl (record {
  status = c.status.ensures;
  whole = rw c.deref.ensures.value at c.in-Ok.ensures.whole;
  warns =
      by_call (λ told. Warns c.args.answer.now.outcome told (g.E.Write.contents c.args.err.now, g.E.Write.contents c.warn.new.err))
      c.warn.result c.warn.ensures.front c.warn.ensures.whole;
})

pub returns-in-Err : goal.returns-in-Err
returns-in-Err g c = inr (record {
  count = c.in-Err.fault.written;
  short = rw c.deref.ensures.value at c.in-Err.ensures.short;
  part = rw c.deref.ensures.value at c.in-Err.ensures.part;
  reported = c.end_output.ensures;
})
