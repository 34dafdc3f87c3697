-- The bytes that were read are those of the image.
use Rattle.std.proofs.Common.{◌∙◌, ap}
use Rattle.scrub_loose.proofs.BytesInMemory.{extent_read}
use Rattle.scrub_loose.proofs.ReadablePages.{marks_read}
use Rattle.scrub_loose.proofs.held.HeldExtent.read.Goals as goal

pub returns-clause-same : goal.returns-clause-same
returns-clause-same g c =
    extent_read (g.D.PageSource.image c.args.disk.now) c.args.extent c.in_ok-bytes.field-0.bytes.items
    c.in_ok-bytes.field-0.readable.items c.in_ok-bytes.ensures c.page-page.result
    (c.page-page.ensures ∙ ap (λ x. x.page) c.geometry.ensures)

pub returns-clause-marks : goal.returns-clause-marks
returns-clause-marks g c =
    marks_read (g.D.PageSource.image c.args.disk.now) c.args.extent c.in_ok-bytes.field-0.bytes.items c.in_ok-bytes.field-0.readable.items
    c.in_ok-bytes.ensures
