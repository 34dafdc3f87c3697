-- The text that was found is read.
use Rattle.std.proofs.Common.{◌≡◌, ◌∙◌, None, sym}
use Rattle.clap.specs.Words.{found_of, rows_of, first_of}
use Rattle.clap.proofs.WalkLemmas.{first_value-rows}
use Rattle.scrub_args.proofs.args.text.Goals as goal

pub unreachable-requires : goal.unreachable-requires
unreachable-requires c =
    let none : None ≡ first_of c.args.name.now (rows_of (found_of c.args.matches.now)) =
    c.in-None.ensures ∙ first_value-rows (found_of c.args.matches.now) c.args.name.now in
    cc (none, c.requires.1)

pub returns : goal.returns
returns c = sym (c.in-Some.ensures ∙ first_value-rows (found_of c.args.matches.now) c.args.name.now)
