-- The items of the extent decide, if it was scanned.
use Rattle.scrub_check.proofs.ChunkForms.{form_by_findings, items_rise, no_form}
use Rattle.scrub_check.proofs.statuses.chunk_form.form_at.Goals as goal

pub form_from-requires : goal.form_from-requires
form_from-requires g c =
    items_rise (λ s. g.D.PageSource.image s) c.args.all.now c.args.locator.now.extent c.in-Some.findings.now c.items.result.now
    c.of_extent.ensures.scanned c.in-Some.ensures.found c.items.ensures

pub returns-in-Some : goal.returns-in-Some
returns-in-Some g c =
    form_by_findings c.args.all.now.extents c.args.locator.now c.in-Some.findings.now c.form_from.result c.in-Some.ensures.found
    (rw c.items.ensures at c.form_from.ensures)

pub returns-in-None : goal.returns-in-None
returns-in-None g c = no_form c.args.all.now.extents c.args.locator.now c.in-None.ensures.none
