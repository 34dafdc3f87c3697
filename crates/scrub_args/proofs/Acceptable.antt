-- The first of some borrowed texts that can't be accepted.
use Rattle.std.proofs.Common.{◌≡◌, ◌∙◌, List, Option, ap, not, sym}
use Rattle.std.specs.Borrow.{Bor}
use Rattle.std.specs.Prelude.{find, option_map}
use Rattle.clap.specs.Words.{Text}
use Rattle.clap.proofs.WalkLemmas.{find-map}
use Rattle.scrub_args.specs.Accepting.{first_unacceptable, is_acceptable}
use Rattle.scrub_args.specs.Args.{texts}

-- The first borrowed text that can't be accepted is `first_unacceptable` of all texts.
pub first_of_texts : (args : List (Bor Text)) (all : List Text) (first : Option (Bor Text)) → texts args ≡ all →
    first ≡ find (λ arg. not (is_acceptable arg.now)) args → first_unacceptable all ≡ option_map (λ arg. arg.now) first
first_of_texts args all first are is =
    ap first_unacceptable (sym are) ∙ sym (find-map (λ text. not (is_acceptable text)) (λ arg. arg.now) args)
    ∙ ap (λ (o : Option (Bor Text)). option_map (λ arg. arg.now) o) (sym is)
