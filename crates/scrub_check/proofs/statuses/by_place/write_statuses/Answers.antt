use Rattle.std.proofs.Common.{◌+◌, Some, drop, get_or}
use Rattle.std.proofs.lemmas.List.{drop_more}
use Rattle.list_facts.proofs.Zips.{AllZip-at, AllZip-set}
use Rattle.scrub_check.specs.declared.statuses.status.Status.TheVariants.{OutOfRange}
use Rattle.scrub_check.specs.steps.Open.{IsKnownBefore, IsJudged}
use Rattle.scrub_check.proofs.JudgedPlaces.{no_locator, fewer_unknown}
use Rattle.scrub_check.proofs.statuses.by_place.write_statuses.Goals as goal

pub loop-i-preserved : goal.loop-i-preserved
loop-i-preserved c =
    let i = c.loop-i.i in
    let left = c.args.left.now in
    let status = get_or c.args.judged.now i OutOfRange in
    record {
      right = λ image plan named judged known.
          AllZip-set (IsKnownBefore image plan) named c.loop-i.known (get_or left i no_locator).index (Some status)
          (AllZip-at (IsJudged image plan named) left c.args.judged.now i no_locator OutOfRange c.loop-i-test.true judged)
          (c.loop-i.invariant.right image plan named judged known);
      all = λ each.
          fewer_unknown c.loop-i.known (get_or left i no_locator) (drop (i + 1) left) status
          (rw (drop_more left i no_locator c.loop-i-test.true) at (c.loop-i.invariant.all each));
    }
