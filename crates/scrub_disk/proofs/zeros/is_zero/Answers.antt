-- One more part of zeros.
use Rattle.std.proofs.Common.{arith}
use Rattle.scrub_disk.proofs.AllZero.{zero_on}
use Rattle.scrub_disk.proofs.zeros.is_zero.Goals as goal

pub loop-place-preserved : goal.loop-place-preserved
loop-place-preserved c = record {
  within = omega (arith, c.min-stop.ensures);
  zero =
      zero_on c.args.part.now c.loop-place.place c.min-stop.result (omega (arith, c.min-stop.ensures, c.loop-place-test.true))
      (omega (arith, c.min-stop.ensures)) c.loop-place.invariant.zero (c.largest-most.ensures.0 (omega (arith, c.if-most-gt0.false)));
}
