-- The lines of doubts that arguments accept.
use Rattle.std.specs.Prelude.{◌||◌, ◌++◌, ◌∷◌, [], ℕ, Bool, List, Option, codes, find, nat_eq, not}
use Rattle.std.specs.List.{starts_with}
use Rattle.clap.specs.Words.{Text}

-- the text begins with the kind of a doubt that can be accepted, and a space, as its line does after the word `doubt`
abbrev pub is_acceptable : Text → Bool
is_acceptable text =
    starts_with nat_eq text (codes "superblock-damaged ") || (starts_with nat_eq text (codes "superblock-stray ")
    || (starts_with nat_eq text (codes "spare ") || (starts_with nat_eq text (codes "loose ")
    || (starts_with nat_eq text (codes "crowded ") || (starts_with nat_eq text (codes "tail ")
    || starts_with nat_eq text (codes "tail-lost "))))))

-- the first of some texts that can't be accepted
abbrev pub first_unacceptable : List Text → Option Text
first_unacceptable texts = find (λ text. not (is_acceptable text)) texts

-- the refusal of a text that can't be accepted
abbrev pub refusal_of : Text → List ℕ
refusal_of text =
    codes "error: invalid value '" ++ (text ++ (codes "' for '--accept <LINE>': not a line of a doubt that can be accepted, without the word doubt"
    ++ (10 ∷ 10 ∷ (codes "For more information, try '--help'." ++ 10 ∷ []))))
