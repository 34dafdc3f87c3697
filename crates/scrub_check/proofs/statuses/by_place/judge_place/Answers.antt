use Rattle.std.proofs.Common.{◌∙◌, get_or}
use Rattle.std.proofs.lemmas.List.{get_or_default}
use Rattle.list_facts.proofs.Zips.{AllZip-take_more}
use Rattle.scrub_check.specs.steps.Open.{IsJudged}
use Rattle.scrub_check.proofs.JudgedPlaces.{no_locator}
use Rattle.scrub_check.proofs.OpenPlaces.{left_can_be_read}
use Rattle.scrub_check.proofs.statuses.by_place.judge_place.Goals as goal

-- the place can be read
pub read-requires-after_bounds : goal.read-requires-after_bounds
read-requires-after_bounds g c κs within =
    left_can_be_read (g.D.PageSource.image c.args.scan.now.disk.now) c.args.scan.now.plan.now c.args.named.now
    (get_or c.args.left.now 0 no_locator) c.args.scan.now.whole.geometry
    (c.requires.left 0 no_locator c.requires.some)

-- one more is judged
pub loop-i-preserved : goal.loop-i-preserved
loop-i-preserved g c =
    let i = c.loop-i.i in
    let left = c.args.left.now in
    let one = get_or left i no_locator in
    let at = c.requires.left i no_locator c.loop-i-test.true in
    record {
      read = c.status.ensures.read;
      place = λ d below. c.status.ensures.place ∙ c.loop-i.invariant.place d c.loop-i-test.true ∙ c.requires.one_place i d below;
      judged =
          AllZip-take_more (IsJudged (g.D.PageSource.image c.args.scan.now.disk.now) c.args.scan.now.plan.now c.args.named.now) left
          c.loop-i.judged.items c.push.new.self.items i no_locator c.in_ok-status.status c.loop-i-test.true c.loop-i.invariant.judged
          (λ e. rw (get_or_default c.args.named.now one.index c.index-named-index.result e at.below) at c.in_ok-status.ensures.status)
          c.in_ok-push.ensures.items;
    }
