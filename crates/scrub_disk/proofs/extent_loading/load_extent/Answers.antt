-- The extent that was read and marked is the one that follows from the raw bytes, the failures and the names.
use Rattle.std.proofs.Common.{arith, ◌≡◌, ◌-◌, ◌*◌, ◌∙◌, ap}
use Rattle.scrub_disk.specs.OneExtent.{image_of}
use Rattle.scrub_disk.specs.steps.WholePages.{alone_whole}
use Rattle.scrub_disk.proofs.AloneRead.{holds_alone, loses_alone, read_alone}
use Rattle.scrub_disk.proofs.LostPages.{loaded_with}
use Rattle.scrub_disk.proofs.extent_loading.load_extent.Goals as goal

pub returns-clause-loaded : goal.returns-clause-loaded
returns-clause-loaded g c =
    let old = c.in_ok-disk.disk in
    let disk = c.mark_named.new.disk in
    let counted = c.read_extent_of.ensures.image.counted in
    let more = c.has_byte_at.ensures.image.counted in
    let failed = g.R.RawImage.failures c.read_extent_of.new.raw - g.R.RawImage.failures c.args.raw.now in
    let read = read_alone old c.args.geometry c.args.extent c.in_ok-disk.ensures.geometry c.in_ok-disk.ensures.extent in
    loaded_with (λ e. e ≡ c.args.extent) (g.R.RawImage.bytes c.args.raw.now) (g.R.RawImage.bytes c.read_extent_of.new.raw)
    (g.R.RawImage.fails c.args.raw.now) c.args.geometry c.args.bad.now failed
    (g.R.RawImage.failures c.has_byte_at.new.raw - g.R.RawImage.failures c.args.raw.now)
    (g.R.RawImage.failures c.read_extent_of.new.raw) (g.R.RawImage.failures c.has_byte_at.new.raw)
    (c.extent_bytes.result * c.extents.result) c.has_byte_at.result (image_of old) (image_of disk)
    c.read_extent_of.ensures.image.same_bytes
    (ap (λ n. n * c.extents.result) c.extent_bytes.ensures ∙ ap (λ n. c.args.geometry.page * c.args.geometry.pages * n) c.extents.ensures)
    c.if-has_byte_at.false c.in_ok-disk.ensures.geometry (omega (arith, counted, more)) (λ rose. omega (arith, counted, rose))
    (alone_whole disk.geometry disk.extent disk.bytes.items disk.unreadable.items disk.whole)
    (holds_alone read (g.R.RawImage.bytes c.args.raw.now) (g.R.RawImage.fails c.args.raw.now) failed c.in_ok-disk.ensures.read)
    (loses_alone read (g.R.RawImage.bytes c.args.raw.now) (g.R.RawImage.fails c.args.raw.now) failed c.in_ok-disk.ensures.read)
    (rw c.read_extent_of.ensures.image.same_fails at c.has_byte_at.ensures.not_there) c.mark_named.ensures
