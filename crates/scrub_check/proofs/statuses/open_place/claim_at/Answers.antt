use Rattle.std.proofs.Common.{◌≡◌, None, Some, is_none, rules}
use Rattle.list_facts.proofs.Filters.{filter_range-rises}
use Rattle.list_facts.proofs.Options.{IfNone-at, IfSome-at}
use Rattle.scrub_disk.specs.Image.{unreadable_pages}
use Rattle.scrub_scan.specs.Extent.{extent_of, NoFrameAt}
use Rattle.scrub_scan.specs.Standing.{IsClaimedAt}
use Rattle.scrub_check.proofs.ClaimedFrames.{gap_is_no_frame, under_plan}
use Rattle.scrub_check.proofs.PlannedFindings.{each_listed, pages_found}
use Rattle.scrub_check.proofs.statuses.open_place.claim_at.Goals as goal

-- its extent was scanned
pub findings_of-requires-after_bounds : goal.findings_of-requires-after_bounds
findings_of-requires-after_bounds g c κs within =
    each_listed (g.D.PageSource.image c.args.scan.now.disk.now) c.args.scan.now.plan.now c.args.scan.now.all.now.extents
    c.args.place.extent c.args.scan.now.whole c.requires.in_use c.requires.from_one c.requires.in_disk

-- nothing is claimed
pub returns-in_default : goal.returns-in_default
returns-in_default g c =
    let image = g.D.PageSource.image c.args.scan.now.disk.now in
    let w = c.pointer-pointer.result in
    under_plan image c.args.scan.now.plan.now c.args.place w None c.pointer-pointer.ensures.value
    (IfNone-at (NoFrameAt (extent_of image c.args.place.extent w) c.args.place.offset) c.in_ok-claimed.claimed c.in_default.is c.in_ok-claimed.ensures.none)

pub has_gap-requires-clause-rising : goal.has_gap-requires-clause-rising
has_gap-requires-clause-rising g c κs within =
    let image = g.D.PageSource.image c.args.scan.now.disk.now in
    let pages : c.bad_pages-bad_pages.result.now ≡ unreadable_pages image c.args.place.extent =
    pages_found image c.args.scan.now.plan.now c.args.scan.now.all.now.extents c.args.place.extent c.pointer-pointer.result
    c.findings_of.result.now c.bad_pages-bad_pages.result.now c.args.scan.now.whole c.findings_of.ensures
    c.pointer-pointer.ensures.value c.bad_pages-bad_pages.ensures in
    rw pages
    (filter_range-rises (λ p. is_none (image.page c.args.place.extent p)) 0 image.geometry.pages)

-- a byte of it can't be read
pub returns-then-has_gap : goal.returns-then-has_gap
returns-then-has_gap g c =
    let image = g.D.PageSource.image c.args.scan.now.disk.now in
    let w = c.pointer-pointer.result in
    let claim = IfSome-at (IsClaimedAt (extent_of image c.args.place.extent w) c.args.place.offset) c.in_ok-claimed.claimed c.in-Some.head c.in-Some.is c.in_ok-claimed.ensures.found in
    let pages =
    pages_found image c.args.scan.now.plan.now c.args.scan.now.all.now.extents c.args.place.extent c.pointer-pointer.result
    c.findings_of.result.now c.bad_pages-bad_pages.result.now c.args.scan.now.whole c.findings_of.ensures
    c.pointer-pointer.ensures.value c.bad_pages-bad_pages.ensures in
    let gap = rw c.frame_bytes.ensures.value at c.has_gap.ensures c.args.place.extent c.requires.in_disk pages in
    under_plan image c.args.scan.now.plan.now c.args.place w None c.pointer-pointer.ensures.value
    (gap_is_no_frame image c.args.place w c.in-Some.head claim (gap.0 (search rules)))

-- or all can
pub returns : goal.returns
returns g c =
    let image = g.D.PageSource.image c.args.scan.now.disk.now in
    let w = c.pointer-pointer.result in
    let claim = IfSome-at (IsClaimedAt (extent_of image c.args.place.extent w) c.args.place.offset) c.in_ok-claimed.claimed c.in-Some.head c.in-Some.is c.in_ok-claimed.ensures.found in
    let pages =
    pages_found image c.args.scan.now.plan.now c.args.scan.now.all.now.extents c.args.place.extent c.pointer-pointer.result
    c.findings_of.result.now c.bad_pages-bad_pages.result.now c.args.scan.now.whole c.findings_of.ensures
    c.pointer-pointer.ensures.value c.bad_pages-bad_pages.ensures in
    let gap = rw c.frame_bytes.ensures.value at c.has_gap.ensures c.args.place.extent c.requires.in_disk pages in
    under_plan image c.args.scan.now.plan.now c.args.place w (Some c.in-Some.head) c.pointer-pointer.ensures.value
    (record { claimed = claim; readable = λ there. let no = rw c.if-has_gap.false at (gap.1 there) in absurd (cc) })
