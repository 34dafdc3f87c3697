use Rattle.std.proofs.Common.{refl, ◌≡◌, ◌∙◌, ℕ, List, Option, None, length, replicate, map, ap}
use Rattle.std.proofs.lemmas.List.Elements.{All-contains_itself}
use Rattle.scrub_scan.specs.declared.extent_result.ExtentResult.{ExtentResult}
use Rattle.scrub_scan.specs.Scanned.{scanned}
use Rattle.scrub_scan.specs.Slots.{IsPlannedResult, scanned_in}
use Rattle.scrub_book.proofs.Places.{held_none, zip_none, same_plan}
use Rattle.scrub_book.proofs.book.Book.new.Goals as goal

pub restrict-requires-clause-each_planned : goal.restrict-requires-clause-each_planned
restrict-requires-clause-each_planned g c = rw c.planned.ensures.planned (All-contains_itself c.args.plan.now.planned)

pub invariant_of-result : goal.invariant_of-result
invariant_of-result g c =
    let image = g.D.PageSource.image c.args.disk.now in
    let plan = c.in_ok-plan.plan in
    let slots : List (Option (ExtentResult g.row.D.Denot g.D.PageSource)) = c.in_ok-slots.slots.items in
    let are : slots ≡ replicate (length plan.planned) None =
    c.in_ok-slots.ensures ∙ ap (λ (ns : List ℕ). replicate (length ns) None) c.planned-2.ensures.planned in
    (rw are (zip_none (IsPlannedResult image plan) plan.planned), c.planned-2.ensures.extents.rising)

pub returns : goal.returns
returns g c = record {
  source_is = refl;
  plan_is = same_plan c.args.plan.now c.in_ok-plan.plan (rw c.planned.ensures.planned at c.in_ok-plan.ensures);
  nothing = ap (λ (xs : List (Option (ExtentResult g.row.D.Denot g.D.PageSource))). scanned_in xs) c.in_ok-slots.ensures
      ∙ ap (map (λ (r : ExtentResult g.row.D.Denot g.D.PageSource). scanned r))
      (held_none (length c.planned-2.result.now));
}
