use Rattle.scrub_check.proofs.Payloads.{stands_there, read_in, lost_in}
use Rattle.scrub_check.proofs.runs.run_with_status.Goals as goal

-- the chunk of a sound or hidden locator is there
pub run_in_chunk-requires-after_bounds : goal.run_in_chunk-requires-after_bounds
run_in_chunk-requires-after_bounds g c κs within =
    stands_there (g.D.PageSource.image c.args.disk.now) c.args.plan.now c.args.locator.now c.in_ok-status.status c.in-Sound.is
    c.in_ok-status.ensures

pub returns-in_ok-run-in-Sound : goal.returns-in_ok-run-in-Sound
returns-in_ok-run-in-Sound g c = record {
  run =
      read_in (g.D.PageSource.image c.args.disk.now) c.args.plan.now c.args.locator.now c.in_ok-status.status c.in_ok-run-in-Sound.run'
      c.in_ok-run-in-Sound.state c.in-Sound.is c.in_ok-status.ensures c.in_ok-run-in-Sound.ensures;
  status = c.in_ok-status.ensures;
}

pub returns-in_default : goal.returns-in_default
returns-in_default g c = record {
  run =
      lost_in (g.D.PageSource.image c.args.disk.now) c.args.plan.now c.args.locator.now c.in_ok-status.status
      c.in_default.not-Sound c.in_default.not-Hidden c.in_ok-status.ensures;
  status = c.in_ok-status.ensures;
}
