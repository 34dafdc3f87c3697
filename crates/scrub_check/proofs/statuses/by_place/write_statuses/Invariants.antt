-- The statuses so far are put to those that were known.
use Rattle.std.proofs.Common.{List, drop}
use Rattle.std.specs.List.{AllZip}
use Rattle.scrub_disk.specs.Image.{Image}
use Rattle.scrub_super.specs.Plan.{PlanValue}
use Rattle.scrub_check.specs.declared.named.Named.{Named}
use Rattle.scrub_check.specs.steps.Open.{IsKnownBefore, IsJudged, HasEachUnknown}
use Rattle.scrub_check.proofs.statuses.by_place.write_statuses.Given as goal

abbrev pub invariant-loop-i : goal.invariant-loop-i
invariant-loop-i l = record {
  right : (image : Image) (plan : PlanValue) (named : List Named) → AllZip (IsJudged image plan named) l.fn.left l.fn.judged →
      AllZip (IsKnownBefore image plan) named l.initial.known → AllZip (IsKnownBefore image plan) named l.known;
  all : HasEachUnknown l.initial.known l.fn.left → HasEachUnknown l.known (drop l.i l.fn.left);
}
