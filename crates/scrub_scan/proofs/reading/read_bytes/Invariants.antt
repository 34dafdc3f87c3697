use Rattle.std.proofs.Common.{◌≡◌, ◌≤◌, ◌+◌, ◌-◌, length}
use Rattle.scrub_disk.specs.Image.{image_byte, AreBytesAt}
use Rattle.scrub_scan.proofs.reading.read_bytes.Given as goal

abbrev pub invariant-loop-place : goal.invariant-loop-place
invariant-loop-place g l = record {
  low : l.start ≤ l.place;
  high : l.place ≤ l.start + l.size;
  buffer : length l.buffer.items ≡ (g.D.PageSource.image l.disk).geometry.page;
  so_far : l.start + length l.bytes.items ≡ l.place;
  bytes : AreBytesAt (image_byte (g.D.PageSource.image l.disk) l.extent) l.start l.bytes.items;
}

abbrev pub decreases-loop-place : goal.decreases-loop-place
decreases-loop-place g l = l.start + l.size - l.place
