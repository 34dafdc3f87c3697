use Rattle.std.proofs.Common.{arith, ◌∙◌, get_or, ◌≡◌, List, ℕ, Option, IfSome, Some}
use Rattle.std.specs.List.{AllZip}
use Rattle.std.proofs.lemmas.List.{take_all}
use Rattle.list_facts.proofs.Zips.{AllZip-take_more}
use Rattle.scrub_disk.specs.Image.{Image}
use Rattle.scrub_super.specs.Plan.{PlanValue}
use Rattle.scrub_scan.specs.declared.extent_result.ExtentResult.{ExtentResult}
use Rattle.scrub_scan.specs.Slots.{AreSlots, IsPlannedResult}
use Rattle.scrub_scan.proofs.Slots.{full_push}
use Rattle.scrub_scan.proofs.scanning.scan_in_order.Goals as goal

-- the slots of all planned extents
all_taken : {D : Type 0} {s : _} (image : Image) (plan : PlanValue) (taken : List ℕ) (slots : List (Option (ExtentResult D s))) →
    taken ≡ plan.planned →
    AllZip (λ e slot. IfSome slot (λ r. IsPlannedResult image plan e r)) taken slots → AreSlots image plan slots
all_taken image plan taken slots is are = rw is at are

pub loop-extent-preserved : goal.loop-extent-preserved
loop-extent-preserved g c =
    let image = g.D.PageSource.image c.args.disk.now in
    let plan = c.args.plan.now in
    let found : ExtentResult g.row.D.Denot g.D.PageSource = c.in_ok-scan_extent_in.field-0 in
    let planned = c.planned-extent-items.result.now in
    let i = c.loop-extent.extent-index in
    let is : IsPlannedResult image plan (get_or planned i 0) found = record {
      image_is = c.in_ok-scan_extent_in.ensures.image;
      extent_is = c.in_ok-scan_extent_in.ensures.extent;
      pointer_is = c.in_ok-scan_extent_in.ensures.pointer;
    } in record {
      are =
          AllZip-take_more (λ e slot. IfSome slot (λ r. IsPlannedResult image plan e r)) planned
          c.loop-extent.slots.items _ i 0 (Some found) c.loop-extent-test.true c.loop-extent.invariant.are is
          c.in_ok-push.ensures.items;
      full = full_push c.loop-extent.slots.items _ found c.loop-extent.invariant.full c.in_ok-push.ensures.items;
    }

pub from_slots-requires-clause-slots : goal.from_slots-requires-clause-slots
from_slots-requires-clause-slots g c = λ κs h. (
  g.D.PageSource.image c.args.disk.now,
  all_taken (g.D.PageSource.image c.args.disk.now) c.args.plan.now _ c.loop-extent.slots.items (take_all c.loop-extent.extent-index c.planned-extent-items.result.now (omega arith) ∙ c.planned-extent-items.ensures.planned) c.loop-extent.invariant.are,
)

pub returns-clause-image : goal.returns-clause-image
returns-clause-image g c =
    c.from_slots.ensures.image (g.D.PageSource.image c.args.disk.now)
    (all_taken (g.D.PageSource.image c.args.disk.now) c.args.plan.now _ c.loop-extent.slots.items (take_all c.loop-extent.extent-index c.planned-extent-items.result.now (omega arith) ∙ c.planned-extent-items.ensures.planned) c.loop-extent.invariant.are)

pub returns-clause-findings : goal.returns-clause-findings
returns-clause-findings g c =
    c.from_slots.ensures.findings (g.D.PageSource.image c.args.disk.now)
    (all_taken (g.D.PageSource.image c.args.disk.now) c.args.plan.now _ c.loop-extent.slots.items (take_all c.loop-extent.extent-index c.planned-extent-items.result.now (omega arith) ∙ c.planned-extent-items.ensures.planned) c.loop-extent.invariant.are)
