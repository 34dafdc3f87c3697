use Rattle.std.proofs.Common.{arith, ◌≡◌, ◌+◌, length, ◌∙◌}
use Rattle.scrub_disk.specs.Image.{image_byte, extent_bytes, AreBytesAt}
use Rattle.scrub_frame.specs.Frame.{payload_start, frame_overhead}
use Rattle.scrub_frame.proofs.Frames.{overhead}
use Rattle.scrub_scan.specs.Extent.{extent_of}
use Rattle.scrub_scan.proofs.FrameBytes.{no_gap, payload_read}
use Rattle.scrub_scan.proofs.standing.read_payload.Goals as goal

pub unreachable-requires : goal.unreachable-requires
unreachable-requires g c =
    let s = c.args.standing.now in
    let image = g.D.PageSource.image c.args.disk.now in
    let x = extent_of image s.extent (extent_bytes image.geometry) in
    let gap = rw c.in-None.is at c.in_ok-payload.ensures.gap in
    no_gap x s.offset (length c.requires.payload + frame_overhead s.form) s.form s.uuid c.requires.payload
    c.requires.has.frame.frame (omega arith)
    (record {
      place = gap.place;
      low = omega (arith, gap.low);
      high = omega (arith, overhead s.form, gap.high, c.requires.has.frame.length, c.payload_start.ensures.value);
      unreadable = gap.unreadable;
    })

pub returns : goal.returns
returns g c =
    let s = c.args.standing.now in
    let image = g.D.PageSource.image c.args.disk.now in
    let size : length c.in-Some.payload.items ≡ s.length = rw c.in-Some.is at c.in_ok-payload.ensures.size in
    let read = rw c.in-Some.is at c.in_ok-payload.ensures.bytes in
    let bytes : AreBytesAt (image_byte image s.extent) (s.offset + payload_start s.form) c.in-Some.payload.items =
    rw c.payload_start.ensures.value at read in
    rw
    (payload_read (extent_of image s.extent (extent_bytes image.geometry)) s.offset s.form s.uuid c.requires.payload c.in-Some.payload.items
    c.requires.has.frame.frame (size ∙ c.requires.has.frame.length) bytes)
    c.requires.has
