use Rattle.std.proofs.Common.{ap, Result, Err}
use Rattle.scrub_run.specs.declared.run.Run.{Run}
use Rattle.scrub_run.specs.declared.reading.RunFault.{RunFault}
use Rattle.scrub_check.proofs.Payloads.{holds_none}
use Rattle.scrub_check.proofs.runs.run_in_chunk.Goals as goal

-- the payload that was read is the run
pub returns-in-Ok : goal.returns-in-Ok
returns-in-Ok g c = record {
  payload = c.in_ok-payload.payload.items;
  has = c.in_ok-payload.ensures;
  run = rw c.deref.ensures.value at c.in-Ok.ensures.ok;
}

-- the payload that was read is none
pub returns-in-Err-NotARun : goal.returns-in-Err-NotARun
returns-in-Err-NotARun g c =
    holds_none (g.D.PageSource.image c.args.disk.now) c.args.locator.now c.in_ok-payload.payload.items c.deref.result.now
    c.in_ok-payload.ensures c.deref.ensures.value
    (c.in-Err-NotARun.ensures.not_a_run (ap (λ (fault : RunFault). let known : Result Run RunFault = Err fault in known) c.in-Err-NotARun.field-0-is))
