-- An identifier above the last of ascending entries is above them all.
use Rattle.std.proofs.Common.{◌-◌, length, arith}
use Rattle.scrub_run.proofs.Order.{above_all}
use Rattle.scrub_run.proofs.reading.is_above_all.Goals as goal

pub returns-in-Some : goal.returns-in-Some
returns-in-Some c = (
  λ h. above_all c.args.entries.now c.in-Some.last.now c.args.id c.requires c.in-Some.ensures.item.1 (rw c.id.ensures at (c.is_below.ensures.0 h)),
  λ h. c.is_below.ensures.1 (rw (c.id.ensures, c.in-Some.ensures.item.1) (h (length c.args.entries.now - 1) c.in-Some.last.now (omega (arith, c.in-Some.ensures.item.3.0)))),
)
