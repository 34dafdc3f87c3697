-- A block that was read, or one that couldn't be.
use Rattle.std.proofs.Common.{arith, Some}
use Rattle.scrub_super.proofs.BlocksFront.{block_read, filled_front}
use Rattle.scrub_super.proofs.unknown_sizes.blocks.read_block.Goals as goal

pub returns-in-Ok-clause-read : goal.returns-in-Ok-clause-read
returns-in-Ok-clause-read g c =
    block_read (g.R.RawImage.fails c.args.raw.now) (g.R.RawImage.bytes c.args.raw.now) c.args.offset (g.R.RawImage.failures c.args.raw.now)
    (g.R.RawImage.failures c.fill.new.raw) c.in-Ok.len c.fill.new.out (omega arith) c.in-Ok.ensures.filled

pub returns-in-Ok-clause-own : goal.returns-in-Ok-clause-own
returns-in-Ok-clause-own g c = λ bytes stands ends.
    block_read (g.R.RawImage.fails c.args.raw.now) (Some bytes) c.args.offset (g.R.RawImage.failures c.args.raw.now)
    (g.R.RawImage.failures c.fill.new.raw) c.in-Ok.len c.fill.new.out (omega arith)
    (filled_front bytes c.args.offset c.in-Ok.len c.fill.new.out c.in-Ok.ensures.filled.within stands (λ short. ends (omega (arith, short))))
