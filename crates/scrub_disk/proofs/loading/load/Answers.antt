-- The disk that was read and marked is the one that follows from the raw bytes, the failures and the names.
use Rattle.std.proofs.Common.{arith, ◌≡◌, ◌-◌, ◌*◌, ◌∙◌, ap}
use Rattle.scrub_disk.specs.declared.geometry.Geometry.{Geometry}
use Rattle.scrub_disk.specs.BytesAndMarks.{held}
use Rattle.scrub_disk.specs.Memory.{image_of}
use Rattle.scrub_disk.specs.Raw.{every_extent}
use Rattle.scrub_disk.specs.steps.WholePages.{held_whole}
use Rattle.scrub_disk.proofs.LostPages.{holds_read, loaded_with, loses_read}
use Rattle.scrub_disk.proofs.loading.load.Goals as goal

pub returns-clause-loaded : goal.returns-clause-loaded
returns-clause-loaded g c =
    let old = c.in_ok-disk.disk in
    let disk = c.mark_named.new.disk in
    let bytes = g.R.RawImage.bytes c.args.raw.now in
    let fails = g.R.RawImage.fails c.args.raw.now in
    let failed = g.R.RawImage.failures c.read_disk.new.raw - g.R.RawImage.failures c.args.raw.now in
    let sizes = c.in_ok-disk.ensures.geometry in
    let is : image_of old ≡ held c.args.geometry old.bytes.items old.unreadable.items =
    ap (λ (s : Geometry). held s old.bytes.items old.unreadable.items) sizes in
    let each = rw sizes at old.each_page in
    let holds = holds_read c.args.geometry bytes fails failed old.bytes.items old.unreadable.items (image_of old) is
    (rw sizes at old.whole) each c.in_ok-disk.ensures.read in
    let counted = c.read_disk.ensures.image.counted in
    let more = c.has_byte_at.ensures.image.counted in
    loaded_with every_extent bytes (g.R.RawImage.bytes c.read_disk.new.raw) fails c.args.geometry c.args.bad.now failed
    (g.R.RawImage.failures c.has_byte_at.new.raw - g.R.RawImage.failures c.args.raw.now)
    (g.R.RawImage.failures c.read_disk.new.raw) (g.R.RawImage.failures c.has_byte_at.new.raw)
    (c.extent_bytes.result * c.extents.result) c.has_byte_at.result (image_of old) (image_of disk)
    c.read_disk.ensures.image.same_bytes
    (ap (λ n. n * c.extents.result) c.extent_bytes.ensures ∙ ap (λ n. c.args.geometry.page * c.args.geometry.pages * n) c.extents.ensures)
    c.if-has_byte_at.false sizes (omega (arith, counted, more)) (λ rose. omega (arith, counted, rose))
    (held_whole disk.geometry disk.bytes.items disk.unreadable.items disk.whole)
    holds
    (loses_read c.args.geometry bytes fails failed old.bytes.items old.unreadable.items (image_of old) is each holds c.in_ok-disk.ensures.read)
    (rw c.read_disk.ensures.image.same_fails at c.has_byte_at.ensures.not_there) c.mark_named.ensures
