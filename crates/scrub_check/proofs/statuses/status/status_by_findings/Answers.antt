use Rattle.std.proofs.Common.{rules, arith, ◌≡◌, ◌∙◌, ap, sym, subst, List}
use Rattle.scrub_disk.specs.declared.geometry.Geometry.{Geometry}
use Rattle.scrub_scan.specs.Extent.{extent_of}
use Rattle.scrub_scan.specs.declared.item.Item.{Item}
use Rattle.scrub_scan.specs.Tiling.{IsTiling}
use Rattle.scrub_scan.proofs.Entries.{findings_facts}
use Rattle.scrub_check.specs.Status.{InRange, CanStand}
use Rattle.scrub_check.proofs.PlannedFindings.{each_listed}
use Rattle.scrub_check.proofs.Starts.{starts_rise}
use Rattle.scrub_check.proofs.StatusByFrame.{status_in_plan}
use Rattle.scrub_check.proofs.statuses.status.status_by_findings.Goals as goal

-- the extent of a locator that is in range was scanned
pub findings_of-findings-requires-after_bounds : goal.findings_of-findings-requires-after_bounds
findings_of-findings-requires-after_bounds g c κs within =
    let image = g.D.PageSource.image c.args.scan.now.disk.now in
    let range : InRange c.geometry-geometry.result c.args.locator.now = c.lies_in_range.ensures.0 (search rules) in
    each_listed image c.args.scan.now.plan.now c.args.scan.now.all.now.extents c.args.locator.now.extent c.args.scan.now.whole
    (sym c.is_retired.ensures ∙ c.if-is_retired.false) range.from_one
    (let e : c.geometry-geometry.result.extents ≡ image.geometry.extents = ap (λ x. x.extents) (c.geometry-geometry.ensures ∙ c.args.scan.now.whole.geometry) in omega (arith, range.in_disk, e))

-- the unreadable pages that were found there are those of the image
pub is_unreadable-requires-clause-pages : goal.is_unreadable-requires-clause-pages
is_unreadable-requires-clause-pages g c κs within =
    let found = findings_facts (g.D.PageSource.image c.args.scan.now.disk.now) c.args.scan.now.plan.now c.args.scan.now.all.now.extents c.args.locator.now.extent c.pointer-pointer.result c.findings_of-findings.result.now
    c.args.scan.now.whole.findings c.findings_of-findings.ensures c.pointer-pointer.ensures.value in
    c.bad_pages.ensures ∙ found.bad_pages

-- the starts of the items that were found there rise
pub status_by_item-requires : goal.status_by_item-requires
status_by_item-requires g c =
    let image = g.D.PageSource.image c.args.scan.now.disk.now in
    let found = findings_facts image c.args.scan.now.plan.now c.args.scan.now.all.now.extents c.args.locator.now.extent c.pointer-pointer.result c.findings_of-findings.result.now
    c.args.scan.now.whole.findings c.findings_of-findings.ensures c.pointer-pointer.ensures.value in
    rw c.items.ensures
    (starts_rise (extent_of image c.args.locator.now.extent c.pointer-pointer.result) c.findings_of-findings.result.now.items (omega (arith, image.geometry.page_least)) found.tiled)

-- so they decide its status, or its place has to be read
pub returns : goal.returns
returns g c =
    let image = g.D.PageSource.image c.args.scan.now.disk.now in
    let l = c.args.locator.now in
    let w = c.pointer-pointer.result in
    let found = findings_facts image c.args.scan.now.plan.now c.args.scan.now.all.now.extents l.extent w c.findings_of-findings.result.now
    c.args.scan.now.whole.findings c.findings_of-findings.ensures c.pointer-pointer.ensures.value in
    let range : InRange image.geometry l =
    subst (λ (geometry : Geometry). InRange geometry l) (c.geometry-geometry.ensures ∙ c.args.scan.now.whole.geometry)
    (c.lies_in_range.ensures.0 (search rules)) in
    let can : CanStand image w l = record {
      in_range = range;
      below = omega (arith, c.end_of.ensures, c.if-end_of-pointer.false);
      readable = search rules;
    } in
    let tiled = subst (λ (is : List Item). IsTiling (extent_of image l.extent w) is) (sym c.items.ensures) found.tiled in
    status_in_plan image c.args.scan.now.plan.now w l c.status_by_item.result (sym c.is_retired.ensures ∙ c.if-is_retired.false)
    c.pointer-pointer.ensures.value can (c.status_by_item.ensures image w can tiled)
