use Rattle.std.proofs.lemmas.List.Elements.{same_from_all_zip}
use Rattle.list_facts.proofs.Elements.{All-flat_map_parts}
use Rattle.list_facts.proofs.Zips.{AllZip-flat_map}
use Rattle.scrub_check.specs.steps.Open.{IsOpenAt, IsJudged}
use Rattle.scrub_check.proofs.statuses.by_place.judge_places.Goals as goal

-- those of each place are open, since all are
pub judge_each_place-requires-clause-left : goal.judge_each_place-requires-clause-left
judge_each_place-requires-clause-left g c κs within =
    rw c.deref.ensures.value
    (All-flat_map_parts (IsOpenAt (g.D.PageSource.image c.args.scan.now.disk.now) c.args.scan.now.plan.now c.args.named.now) (λ part. part.now)
    c.in_ok-places.places.items (rw c.in_ok-places.ensures.whole c.requires))

pub returns : goal.returns
returns g c =
    let same = same_from_all_zip _ _ _ c.in_ok-judged.ensures.ok (λ x y k. k) in
    rw (same, c.deref-2.ensures.value, ← c.in_ok-places.ensures.whole)
    (AllZip-flat_map (IsJudged (g.D.PageSource.image c.args.scan.now.disk.now) c.args.scan.now.plan.now c.args.named.now) (λ part. part.now) (λ v. v.items)
    c.in_ok-places.places.items c.in_ok-judge_each_place.field-0.items (rw c.deref.ensures.value at c.in_ok-judge_each_place.ensures))
