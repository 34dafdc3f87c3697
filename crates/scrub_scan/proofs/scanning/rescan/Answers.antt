-- The next result is under the plan's write pointer.
use Rattle.std.proofs.Common.{rules, ◌≡◌, ◌<◌, ◌≤◌, ◌∙◌, ◌∷◌, List, Option, Some, ap, arith, sym}
use Rattle.std.specs.Vec.Iter.{into_iter_items}
use Rattle.std.proofs.lemmas.List.Elements.{All-contains}
use Rattle.scrub_super.specs.Plan.{pointer_of}
use Rattle.scrub_scan.specs.declared.extent_result.ExtentResult.{ExtentResult}
use Rattle.scrub_scan.proofs.Rescans.{as_many, none_under, next_planned, next_image, next_under, all_under}
use Rattle.scrub_scan.proofs.scanning.rescan.Goals as goal

pub loop-slot-init : goal.loop-slot-init
loop-slot-init g c =
    let were = c.into_slots-slot-items.ensures in
    let slots = c.into_slots-slot-items.result.items in
    let image = g.D.PageSource.image c.args.disk.now in
    let same : slots ≡ into_iter_items c.into_iter-slot-iterator.result = search rules in
    let many = as_many slots c.args.found.extents c.args.plan.now.planned were.full were.extents c.requires.extents in
    record {
      so_far =
          rw same at (none_under image c.args.plan.now c.args.found.extents c.in_ok-slots.slots.items slots
          c.in_ok-slots.ensures.items were.full were.extents c.requires.extents (were.images image c.requires.image));
      room = search (rules, many);
    }

pub pointer-pointer-requires-clause-from_one : goal.pointer-pointer-requires-clause-from_one
pointer-pointer-requires-clause-from_one g c =
    let now : List (Option (ExtentResult g.row.D.Denot g.D.PageSource)) = into_iter_items c.loop-slot.slot-iterator in
    let rest : List (Option (ExtentResult g.row.D.Denot g.D.PageSource)) = into_iter_items c.next.new.self in
    let next : now ≡ Some c.in-Some-slot.old ∷ rest = search rules in
    rw c.extent.ensures
    (All-contains (λ e. 1 ≤ e) c.args.plan.now.planned c.in-Some-slot.old.extent c.planned.ensures.extents.from_one
    (next_planned (g.D.PageSource.image c.args.disk.now) c.args.plan.now c.loop-slot.slots.items now rest c.in-Some-slot.old c.loop-slot.invariant.so_far next))

pub pointer-pointer-requires-clause-in_extents : goal.pointer-pointer-requires-clause-in_extents
pointer-pointer-requires-clause-in_extents g c =
    let now : List (Option (ExtentResult g.row.D.Denot g.D.PageSource)) = into_iter_items c.loop-slot.slot-iterator in
    let rest : List (Option (ExtentResult g.row.D.Denot g.D.PageSource)) = into_iter_items c.next.new.self in
    let next : now ≡ Some c.in-Some-slot.old ∷ rest = search rules in
    rw c.extent.ensures
    (All-contains (λ e. e < c.args.plan.now.geometry.extents) c.args.plan.now.planned c.in-Some-slot.old.extent c.planned.ensures.extents.below
    (next_planned (g.D.PageSource.image c.args.disk.now) c.args.plan.now c.loop-slot.slots.items now rest c.in-Some-slot.old c.loop-slot.invariant.so_far next))

pub result_under-requires-clause-image : goal.result_under-requires-clause-image
result_under-requires-clause-image g c κs within =
    let now : List (Option (ExtentResult g.row.D.Denot g.D.PageSource)) = into_iter_items c.loop-slot.slot-iterator in
    let rest : List (Option (ExtentResult g.row.D.Denot g.D.PageSource)) = into_iter_items c.next.new.self in
    let next : now ≡ Some c.in-Some-slot.old ∷ rest = search rules in
    next_image (g.D.PageSource.image c.args.disk.now) c.args.plan.now c.loop-slot.slots.items now rest c.in-Some-slot.old
    c.loop-slot.invariant.so_far next

pub result_under-requires-clause-in_extents : goal.result_under-requires-clause-in_extents
result_under-requires-clause-in_extents g c κs within =
    let now : List (Option (ExtentResult g.row.D.Denot g.D.PageSource)) = into_iter_items c.loop-slot.slot-iterator in
    let rest : List (Option (ExtentResult g.row.D.Denot g.D.PageSource)) = into_iter_items c.next.new.self in
    let next : now ≡ Some c.in-Some-slot.old ∷ rest = search rules in
    rw (← c.requires.geometry)
    (All-contains (λ e. e < c.args.plan.now.geometry.extents) c.args.plan.now.planned c.in-Some-slot.old.extent c.planned.ensures.extents.below
    (next_planned (g.D.PageSource.image c.args.disk.now) c.args.plan.now c.loop-slot.slots.items now rest c.in-Some-slot.old c.loop-slot.invariant.so_far next))

pub loop-slot-preserved : goal.loop-slot-preserved
loop-slot-preserved g c =
    let now : List (Option (ExtentResult g.row.D.Denot g.D.PageSource)) = into_iter_items c.loop-slot.slot-iterator in
    let rest : List (Option (ExtentResult g.row.D.Denot g.D.PageSource)) = into_iter_items c.next.new.self in
    let next : now ≡ Some c.in-Some-slot.old ∷ rest = search rules in
    let plan = c.args.plan.now in
    record {
      so_far =
          next_under (g.D.PageSource.image c.args.disk.now) plan c.loop-slot.slots.items now rest c.in-Some-slot.old
          c.loop-slot.invariant.so_far next c.push_reserved.new.self.items c.in_ok-new.new
          c.push_reserved.ensures.items c.in_ok-new.ensures.image c.in_ok-new.ensures.extent
          (ap (pointer_of plan) (sym c.extent.ensures) ∙ c.pointer-pointer.ensures.value ∙ ap Some (sym c.in_ok-new.ensures.pointer));
      room = search rules;
    }

pub from_slots-requires-clause-slots : goal.from_slots-requires-clause-slots
from_slots-requires-clause-slots g c κs within = (
  g.D.PageSource.image c.args.disk.now,
  all_under (g.D.PageSource.image c.args.disk.now) c.args.plan.now c.loop-slot.slots.items (into_iter_items c.loop-slot.slot-iterator) c.loop-slot.invariant.so_far (omega (arith, c.in-None.ensures.steps.0)),
)

pub returns-clause-image : goal.returns-clause-image
returns-clause-image g c =
    c.from_slots.ensures.image (g.D.PageSource.image c.args.disk.now)
    (all_under (g.D.PageSource.image c.args.disk.now) c.args.plan.now c.loop-slot.slots.items (into_iter_items c.loop-slot.slot-iterator) c.loop-slot.invariant.so_far (omega (arith, c.in-None.ensures.steps.0)))

pub returns-clause-findings : goal.returns-clause-findings
returns-clause-findings g c =
    c.from_slots.ensures.findings (g.D.PageSource.image c.args.disk.now)
    (all_under (g.D.PageSource.image c.args.disk.now) c.args.plan.now c.loop-slot.slots.items (into_iter_items c.loop-slot.slot-iterator) c.loop-slot.invariant.so_far (omega (arith, c.in-None.ensures.steps.0)))
