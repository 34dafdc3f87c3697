-- What was drawn says what follows from the locators that it was drawn from.
use Rattle.std.proofs.Common.{refl}
use Rattle.scrub_report.proofs.listed.listed_of.Goals as goal

pub returns : goal.returns
returns g c = record {
  scan_is = refl;
  runs_are = refl;
  shards_are = refl;
  dangling_are = refl;
  hidden_are = refl;
  liveness_is = c.in_ok-liveness.ensures.liveness;
  twins_are = c.in_ok-liveness.ensures.twins;
}
