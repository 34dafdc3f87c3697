use Rattle.std.proofs.Common.{All}
use Rattle.std.specs.List.{AllZip}
use Rattle.scrub_disk.specs.Image.{Image}
use Rattle.scrub_super.specs.Plan.{PlanValue}
use Rattle.scrub_check.specs.steps.Open.{IsKnownBefore, IsOpenAt}
use Rattle.scrub_check.proofs.JudgedPlaces.{HasUnknownBelow}
use Rattle.scrub_check.proofs.statuses.by_place.open_locators.Given as goal

-- they are those so far of which nothing is known
abbrev pub invariant-loop-index : goal.invariant-loop-index
invariant-loop-index l = record {
  left : (image : Image) (plan : PlanValue) → AllZip (IsKnownBefore image plan) l.fn.named l.fn.known →
      All (IsOpenAt image plan l.fn.named) l.left.items;
  all : HasUnknownBelow l.fn.known l.index l.left.items;
}
