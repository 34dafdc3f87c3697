-- The pages so far are read.
use Rattle.std.proofs.Common.{◌≡◌, length}
use Rattle.scrub_disk.specs.Image.{extent_bytes}
use Rattle.scrub_disk.proofs.PagesRead.{PagesRead}
use Rattle.scrub_disk.proofs.buffered_extent.read_extent.Given as goal

abbrev pub invariant-loop-page : goal.invariant-loop-page
invariant-loop-page g l =
    (length l.bytes.items ≡ extent_bytes (g.D.PageSource.image l.disk).geometry)
    × PagesRead ((g.D.PageSource.image l.disk).page l.extent) l.size l.page l.bytes.items l.readable.items
