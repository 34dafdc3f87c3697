-- The blocks so far.
use Rattle.std.proofs.Common.{◌≡◌, ◌<◌, ◌≤◌, ◌+◌, ◌-◌, ◌*◌, ℕ, List, IfSome, length}
use Rattle.scrub_disk.specs.Raw.{IsReadOn}
use Rattle.scrub_super.specs.Blocks.{IsMarked}
use Rattle.scrub_super.specs.steps.BlocksRead.{AreBlocksRead, BeginsWith}
use Rattle.scrub_super.proofs.unknown_sizes.blocks.read_blocks.Given as goal

abbrev pub invariant-loop-number : goal.invariant-loop-number
invariant-loop-number g l = record {
  image : IsReadOn g.R.RawImage.bytes g.R.RawImage.fails g.R.RawImage.most_failures g.R.RawImage.failures l.initial.raw l.raw;
  reads : g.R.RawImage.reads l.raw ≤ g.R.RawImage.reads l.initial.raw + l.number * 512;
  size : length l.bytes.items ≡ 512 * l.number;
  marks : length l.lost.items ≡ l.number;
  begins : (n : ℕ) → IsMarked l.lost.items n → n * 512 < length l.bytes.items;
  read : IfSome (g.R.RawImage.bytes l.initial.raw) (λ known.
      AreBlocksRead known (g.R.RawImage.fails l.initial.raw) (g.R.RawImage.failures l.raw - g.R.RawImage.failures l.initial.raw)
      l.bytes.items l.lost.items);
  own : (known : List ℕ) → BeginsWith known l.bytes.items →
      AreBlocksRead known (g.R.RawImage.fails l.initial.raw) (g.R.RawImage.failures l.raw - g.R.RawImage.failures l.initial.raw)
      l.bytes.items l.lost.items;
}
