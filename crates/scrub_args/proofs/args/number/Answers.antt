-- A value that its parser took is read as a number.
use Rattle.clap.specs.Words.{found_of}
use Rattle.scrub_args.proofs.ArgsFound.{number_read, number_there}
use Rattle.scrub_args.proofs.args.number.Goals as goal

pub unreachable-requires : goal.unreachable-requires
unreachable-requires c = number_there (found_of c.args.matches.now) c.args.name.now c.requires c.in-None.ensures.value

pub returns : goal.returns
returns c =
    number_read (found_of c.args.matches.now) c.args.name.now c.in-Some.number c.in-Some.ensures.none c.in-Some.ensures.value
