-- The arguments of `items` are those that were found.
use Rattle.std.proofs.Common.{codes}
use Rattle.clap.specs.Words.{found_of}
use Rattle.scrub_args.proofs.ArgsFound.{number_tried}
use Rattle.scrub_args.proofs.args.items_args.Goals as goal

pub returns : goal.returns
returns c = record {
  image = c.in_ok-image_args.ensures;
  extent = c.number.ensures;
  pointer =
      number_tried (found_of c.args.matches.now) (codes "pointer") c.get_one.result c.requires.pointer c.get_one.ensures.none
      c.get_one.ensures.value;
}
