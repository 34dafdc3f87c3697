-- The bytes and blocks that were read.
use Rattle.scrub_super.proofs.BlocksFront.{front_read}
use Rattle.scrub_super.proofs.unknown_sizes.front.Front.read.Goals as goal

pub returns-clause-front : goal.returns-clause-front
returns-clause-front g c =
    front_read (g.R.RawImage.bytes c.args.raw.now) c.in_ok-bytes.ensures.read c.in_ok-bytes.ensures.own c.in_ok-bytes.ensures.marks
