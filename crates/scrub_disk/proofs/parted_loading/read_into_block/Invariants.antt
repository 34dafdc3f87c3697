-- The pages so far were read into the block.
use Rattle.std.proofs.Common.{◌≡◌, ◌≤◌, ◌+◌, ◌-◌, ◌*◌, length}
use Rattle.scrub_disk.specs.Raw.{IsReadOn}
use Rattle.scrub_disk.specs.Stored.{HasPages, block_text}
use Rattle.scrub_disk.specs.steps.Ahead.{IsReadFrom}
use Rattle.scrub_disk.proofs.parted_loading.read_into_block.Given as goal

abbrev pub invariant-loop-alloc : goal.invariant-loop-alloc
invariant-loop-alloc g l = record {
  image : IsReadOn g.R.RawImage.bytes g.R.RawImage.fails g.R.RawImage.most_failures g.R.RawImage.failures l.initial.raw l.raw;
  reads : g.R.RawImage.reads l.raw ≤ g.R.RawImage.reads l.initial.raw + (l.division.geometry.page + 1) * length l.marks.items;
  room : length l.buffer ≡ l.division.geometry.page * l.division.at_once;
  within : length l.marks.items ≤ l.count;
  pages : HasPages l.division.geometry.page l.block;
  stored : length l.block.bytes.items ≡ l.stored * l.division.geometry.page;
  few : l.stored ≤ length l.marks.items;
  size : length (block_text l.division.geometry.page l.block) ≡ length l.marks.items * l.division.geometry.page;
  read : IsReadFrom (g.R.RawImage.bytes l.initial.raw) (g.R.RawImage.fails l.initial.raw) l.first l.division.geometry.page (g.R.RawImage.failures l.raw - g.R.RawImage.failures l.initial.raw) (block_text l.division.geometry.page l.block) l.marks.items;
}

abbrev pub decreases-loop-alloc : goal.decreases-loop-alloc
decreases-loop-alloc g l = l.count - length l.marks.items
