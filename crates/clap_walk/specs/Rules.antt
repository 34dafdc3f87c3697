-- The rules of a table of arguments, as `clap` builds them, and arguments that have no fault by them.
use Rattle.std.specs.Prelude.{◌≡◌, ◌≢◌, ◌⊎◌, false, List, [], ◌∷◌, Some}
use Rattle.clap.specs.Facts.{unwrap_or_range}
use Rattle.clap.specs.Faults.{level_fault}
use Rattle.clap.specs.Simple.{Shape}
use Rattle.clap.specs.Walk.{Rule, Text, action_of, arg_by_id, most_values, nothing_held}
use Rattle.clap.specs.declared.builder.action.ArgAction.{ArgAction}
use Rattle.clap.specs.declared.builder.action.ArgAction.TheVariants.{Set, Append, SetTrue, Help}

-- Q holds of each rule of a list
abbrev pub EachRule : (Rule → Type 0) → List Rule → Type 0
EachRule Q [] = Unit {0}
EachRule Q (a ∷ rest) = Q a × EachRule Q rest

-- an action that keeps values: those of the last use, or of all
abbrev pub KeepsValues : ArgAction → Type 0
KeepsValues x = (x ≡ Set) ⊎ ((x ≡ SetTrue) ⊎ (x ≡ Append))

-- each use has one value, or there are values that stand for a use without any
abbrev pub HasValueOfUse : Rule → Type 0
HasValueOfUse a = (((unwrap_or_range a.range).start_inclusive ≡ 1) × (most_values a ≡ 1)) ⊎ (a.missing ≢ [])

-- the rule is found by its name, and it asks for help, or is an option or a flag with a value of each use
abbrev pub IsUsual : List Rule → Rule → Type 0
IsUsual c a = (arg_by_id c a.id ≡ Some a) × ((action_of a ≡ Help) ⊎ (KeepsValues (action_of a) × HasValueOfUse a))

-- each rule is usual
abbrev pub AreUsual : List Rule → Type 0
AreUsual rules = EachRule (IsUsual rules) rules

-- `clap` finds no fault in the arguments that follow a command
abbrev pub AreClean : Shape → List Text → Type 0
AreClean s words = level_fault s [] nothing_held words false [] ≡ []
