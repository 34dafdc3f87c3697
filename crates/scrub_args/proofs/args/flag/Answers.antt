-- The text that was found for the flag is read.
use Rattle.std.proofs.Common.{◌≡◌, ◌∙◌, Bool, false, true, Some, sym}
use Rattle.clap.specs.Values.{bool_text}
use Rattle.clap.specs.Words.{found_of, one_text, rows_of}
use Rattle.clap.proofs.WalkLemmas.{one_text-rows}
use Rattle.scrub_args.specs.Args.{IsFlagOf}
use Rattle.scrub_args.proofs.args.flag.Goals as goal

pub returns : goal.returns
returns c = go c.requires.0 (one_text-rows (found_of c.args.matches.now) c.args.name.now ∙ c.requires.1)
  where
    go : (b : Bool) → one_text (found_of c.args.matches.now) c.args.name.now ≡ Some (bool_text b) →
        IsFlagOf (rows_of (found_of c.args.matches.now)) c.args.name.now c.get_flag.result
    go true is = rw (c.get_flag.ensures.value is) (sym (one_text-rows (found_of c.args.matches.now) c.args.name.now) ∙ is)
    go false is = rw (c.get_flag.ensures.other is) (sym (one_text-rows (found_of c.args.matches.now) c.args.name.now) ∙ is)
