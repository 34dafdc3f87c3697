-- Each so far is judged, and the place of the next one was read.
use Rattle.std.proofs.Common.{◌≡◌, ◌<◌, length, get_or, take}
use Rattle.std.specs.List.{AllZip}
use Rattle.scrub_check.specs.declared.statuses.by_place.OpenLocator.{OpenLocator}
use Rattle.scrub_check.specs.steps.Open.{IsReadPlace, IsJudged}
use Rattle.scrub_check.proofs.statuses.by_place.judge_place.Given as goal

abbrev pub invariant-loop-i : goal.invariant-loop-i
invariant-loop-i g l = record {
  read : IsReadPlace (g.D.PageSource.image l.fn.scan.disk.now) l.fn.scan.plan.now l.read;
  place : (d : OpenLocator) → l.i < length l.fn.left → l.read.place ≡ (get_or l.fn.left l.i d).place;
  judged : AllZip (IsJudged (g.D.PageSource.image l.fn.scan.disk.now) l.fn.scan.plan.now l.fn.named) (take l.i l.fn.left) l.judged.items;
}
