-- A value that its parser took is read as a number.
use Rattle.clap.specs.Words.{found_of}
use Rattle.scrub_args.proofs.ArgsFound.{number_tried}
use Rattle.scrub_args.proofs.args.optional.Goals as goal

pub returns : goal.returns
returns c =
    number_tried (found_of c.args.matches.now) c.args.name.now c.get_one.result c.requires c.get_one.ensures.none
    c.get_one.ensures.value
