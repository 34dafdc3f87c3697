-- The disk whose parts were read and whose named pages were marked is the one that follows from the raw bytes, what may fail,
-- and the names.
use Rattle.std.proofs.Common.{arith, ◌≡◌, ◌≤◌, ◌*◌, ◌∙◌, ap, vec_len, sum_by}
use Rattle.scrub_disk.specs.Image.{disk_bytes}
use Rattle.scrub_disk.specs.Joined.{joined}
use Rattle.scrub_disk.specs.Parted.{image_of}
use Rattle.scrub_disk.specs.Raw.{every_extent}
use Rattle.scrub_disk.specs.steps.WholePages.{held_whole}
use Rattle.scrub_disk.proofs.LostPages.{holds_read, loaded_with, byte_at_end_is_too_long, loses_read}
use Rattle.scrub_disk.proofs.JoinedBlocks.{whole_disk}
use Rattle.scrub_disk.proofs.parted_loading.load_in_parts.Goals as goal

pub returns-then-has_byte_at-clause-too_long : goal.returns-then-has_byte_at-clause-too_long
returns-then-has_byte_at-clause-too_long g c e known every =
    let end : c.extent_bytes.result * c.extents.result ≡ disk_bytes c.args.geometry =
    ap (λ n. n * c.extents.result) c.extent_bytes.ensures ∙ ap (λ n. c.args.geometry.page * c.args.geometry.pages * n) c.extents.ensures in
    byte_at_end_is_too_long known (g.R.RawImage.bytes c.in-Ok.read.1) (c.extent_bytes.result * c.extents.result) (disk_bytes c.args.geometry)
    c.has_byte_at.result
    (c.in-Ok.ensures.same_bytes known every) end c.if-has_byte_at.true c.has_byte_at.ensures.there

pub returns-clause-loaded : goal.returns-clause-loaded
returns-clause-loaded g c known every fails all_fail =
    let disk = c.mark_named.new.disk in
    let parts = c.in-Ok.read.0 in
    let most = sum_by (λ r. g.R.RawImage.most_failures r) c.args.readers.items in
    let same = c.divide-division.ensures.geometry in
    let read = rw same at (c.in-Ok.ensures.read known every fails all_fail) in
    let all = whole_disk c.args.geometry c.divide-division.result.stride (vec_len c.args.readers * c.divide-division.result.share)
    parts.filled.items parts.marks.items (rw same at c.in-Ok.ensures.shape) (rw c.len.ensures at c.divide-division.ensures.enough) in
    let bytes = joined c.args.geometry.page parts.filled.items in
    let holds = holds_read c.args.geometry known fails most bytes parts.marks.items
    (image_of c.from_blocks-disk.result) c.from_blocks-disk.ensures all.0 all.1 read in
    let bounded : g.R.RawImage.failures c.has_byte_at.new.raw ≤ most =
    omega (arith, (g.met.R.RawImage g.world.𝓛 g.world.𝓜 g.world.𝓡 ((λ s x. x), (λ x. x), (λ x. x), λ x. x)).failures_are_bounded c.has_byte_at.new.raw, c.has_byte_at.ensures.image.same_bound, c.in-Ok.ensures.within) in
    loaded_with every_extent known (g.R.RawImage.bytes c.in-Ok.read.1) fails c.args.geometry c.args.bad.now most most
    (g.R.RawImage.failures c.in-Ok.read.1) (g.R.RawImage.failures c.has_byte_at.new.raw)
    (c.extent_bytes.result * c.extents.result) c.has_byte_at.result (image_of c.from_blocks-disk.result) (image_of disk)
    (c.in-Ok.ensures.same_bytes known every)
    (ap (λ n. n * c.extents.result) c.extent_bytes.ensures ∙ ap (λ n. c.args.geometry.page * c.args.geometry.pages * n) c.extents.ensures)
    c.if-has_byte_at.false (ap (λ i. i.geometry) c.from_blocks-disk.ensures) (omega arith) (λ rose. omega (arith, rose, bounded))
    (held_whole disk.geometry (joined disk.geometry.page disk.blocks.items) disk.unreadable.items disk.whole)
    holds
    (loses_read c.args.geometry known fails most bytes parts.marks.items (image_of c.from_blocks-disk.result)
    c.from_blocks-disk.ensures all.1 holds read)
    (rw (c.in-Ok.ensures.same_fails fails all_fail) at c.has_byte_at.ensures.not_there) c.mark_named.ensures
