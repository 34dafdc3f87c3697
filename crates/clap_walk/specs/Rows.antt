-- The rows in which `clap` keeps what it found for each argument.
use Rattle.std.specs.Prelude.{◌≡◌, ◌≢◌, ℕ, List, [], ◌∷◌, Some, pos}
use Rattle.clap.specs.Words.{IsSignedIn, without_minus, one_of}
use Rattle.clap.specs.Walk.{Row, Rule, Text, arg_by_id, reading_by}
use Rattle.clap.specs.Faults.{values_fault}

-- P holds of each row of a list
abbrev pub EachRow : (Row → Type 0) → List Row → Type 0
EachRow P [] = Unit {0}
EachRow P (r ∷ rows) = P r × EachRow P rows

-- the row has values, the parser of its rule accepted them, and they are read as that rule says
abbrev pub IsSound : List Rule → Row → Type 0
IsSound c r = (a : Rule) → arg_by_id c r.id ≡ Some a → (r.values ≢ []) × (values_fault a r.values ≡ []) × (r.reading ≡ reading_by a)

-- a value was found for the option, and its parser accepted it as a whole number from 0 to a maximum
abbrev pub HasNumberTo : ℕ → List Row → Text → Type 0
HasNumberTo most found name = (text : Text) × (one_of name found ≡ Some (without_minus text)) × IsSignedIn (pos 0) (pos most) text
