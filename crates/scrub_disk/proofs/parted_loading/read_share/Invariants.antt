-- The blocks so far were read.
use Rattle.std.proofs.Common.{◌≡◌, ◌≤◌, ◌+◌, ◌-◌, ◌*◌, length}
use Rattle.scrub_disk.specs.steps.Ahead.{IsReadFrom}
use Rattle.scrub_disk.specs.Joined.{AreBlocks, first_page, joined}
use Rattle.scrub_disk.specs.Raw.{IsReadOn}
use Rattle.scrub_disk.proofs.parted_loading.read_share.Given as goal

abbrev pub invariant-loop-number : goal.invariant-loop-number
invariant-loop-number g l = record {
  image : IsReadOn g.R.RawImage.bytes g.R.RawImage.fails g.R.RawImage.most_failures g.R.RawImage.failures l.initial.raw l.raw;
  reads : g.R.RawImage.reads l.raw ≤ g.R.RawImage.reads l.initial.raw + (l.division.geometry.page + 1) * (first_page l.division.geometry l.division.stride l.number - first_page l.division.geometry l.division.stride l.first);
  room : length l.buffer.items ≡ l.division.geometry.page * l.division.at_once;
  shape : AreBlocks l.division.geometry l.division.stride l.first (l.number - l.first) l.part.filled.items l.part.marks.items;
  read : IsReadFrom (g.R.RawImage.bytes l.initial.raw) (g.R.RawImage.fails l.initial.raw) (first_page l.division.geometry l.division.stride l.first) l.division.geometry.page (g.R.RawImage.failures l.raw - g.R.RawImage.failures l.initial.raw) (joined l.division.geometry.page l.part.filled.items) l.part.marks.items;
}
