-- A value that its parser took is read as a number.
use Rattle.std.proofs.Common.{codes}
use Rattle.clap.specs.Words.{found_of}
use Rattle.scrub_args.proofs.LongNumbers.{long_tried}
use Rattle.scrub_args.proofs.args.last.Goals as goal

pub returns : goal.returns
returns c = long_tried (found_of c.args.matches.now) (codes "last") c.get_one.result c.requires c.get_one.ensures.none c.get_one.ensures.value
