-- A test of a table of rules that computes, so that `refl` proves that a table is usual.
use Rattle.std.proofs.Common.{◌≡◌, ◌⊎◌, ◌∙◌, ◌==◌, ◌≢◌, ◌&&◌, inl, inr, Bool, true, false, List, [], ◌∷◌, Some, refl, ap, not}
use Rattle.std.specs.Prelude.{if◌then◌else◌, ◌||◌}
use Rattle.std.specs.List.{list_all, list_any}
use Rattle.std.specs.Str.{bytes_eq}
use Rattle.std.proofs.lemmas.Bool.{and_parts, eqb-true, false≢true, not-true, or_cases, or_parts}
use Rattle.std.proofs.lemmas.Slice.Eq.{bytes_eq-Decides}
use Rattle.clap.specs.Facts.{unwrap_or_range}
use Rattle.clap.specs.Walk.{Rule, Text, action_of, arg_by_id, is_empty, most_values}
use Rattle.clap.specs.declared.builder.action.ArgAction.{ArgAction}
use Rattle.clap.specs.declared.builder.action.ArgAction.TheVariants.{Set, Append, SetTrue, Help}
use Rattle.clap_walk.specs.Rules.{AreUsual, EachRule, HasValueOfUse, IsUsual, KeepsValues}

-- ---- each rule is found by its name

-- no two rules have the same name, nor one of those that were seen before
abbrev are_distinct : List Text → List Rule → Bool
are_distinct seen [] = true
are_distinct seen (a ∷ more) = not (list_any (λ id. bytes_eq id a.id) seen) && are_distinct (a.id ∷ seen) more

each_found : (c : List Rule) (seen : List Text) (rest : List Rule) →
    ((id : Text) → list_any (λ s. bytes_eq s id) seen ≡ false → arg_by_id c id ≡ arg_by_id rest id) →
    are_distinct seen rest ≡ true → EachRule (λ a. arg_by_id c a.id ≡ Some a) rest
each_found c seen [] same distinct = tt
each_found c seen (a ∷ more) same distinct =
    let two = and_parts (not (list_any (λ id. bytes_eq id a.id) seen)) (are_distinct (a.id ∷ seen) more) distinct in (
      same a.id (not-true _ two.0) ∙ ap (λ (b : Bool). if b then Some a else arg_by_id more a.id) ((bytes_eq-Decides a.id a.id).1 refl),
      each_found c (a.id ∷ seen) more
          (λ id none.
          let apart = or_parts (bytes_eq a.id id) (list_any (λ s. bytes_eq s id) seen) none in
          same id apart.1 ∙ ap (λ (b : Bool). if b then Some a else arg_by_id more id) apart.0)
          two.1,
    )

-- ---- what a rule takes

-- an action that keeps values
abbrev keeps_values : ArgAction → Bool
keeps_values Set = true
keeps_values SetTrue = true
keeps_values Append = true
keeps_values _ = false

abbrev asks_help : ArgAction → Bool
asks_help Help = true
asks_help _ = false

keeps : (x : ArgAction) → keeps_values x ≡ true → KeepsValues x
keeps Set is = inl refl
keeps SetTrue is = inr (inl refl)
keeps Append is = inr (inr refl)
keeps _ is = absurd (false≢true is)

asks : (x : ArgAction) → asks_help x ≡ true → x ≡ Help
asks Help is = refl
asks _ is = absurd (false≢true is)

-- the rule takes one value at each use
abbrev takes_one : Rule → Bool
takes_one a = (unwrap_or_range a.range).start_inclusive == 1 && most_values a == 1

-- there is a value of each use
abbrev has_value : Rule → Bool
has_value a = takes_one a || not (is_empty a.missing)

some_missing : (missing : List Text) → not (is_empty missing) ≡ true → missing ≢ []
some_missing [] is none = absurd (false≢true is)
some_missing (v ∷ vs) is none = cc

value_of_use : (a : Rule) → has_value a ≡ true → HasValueOfUse a
value_of_use a is = elim (or_cases (takes_one a) (not (is_empty a.missing)) is) [
  | inl one ↦
      let both = and_parts ((unwrap_or_range a.range).start_inclusive == 1) (most_values a == 1) one in
      inl (eqb-true (unwrap_or_range a.range).start_inclusive 1 both.0, eqb-true (most_values a) 1 both.1)
  | inr some ↦ inr (some_missing a.missing some)
]

-- the rule asks for help, or is an option or a flag with a value of each use
abbrev is_plain : Rule → Bool
is_plain a = asks_help (action_of a) || (keeps_values (action_of a) && has_value a)

each_plain : (c rest : List Rule) → EachRule (λ a. arg_by_id c a.id ≡ Some a) rest → list_all is_plain rest ≡ true →
    EachRule (IsUsual c) rest
each_plain c [] found plain = tt
each_plain c (a ∷ more) found plain =
    let two = and_parts (is_plain a) (list_all is_plain more) plain in
    ((found.0, action two.0), each_plain c more found.1 two.1)
  where
    action : is_plain a ≡ true → (action_of a ≡ Help) ⊎ (KeepsValues (action_of a) × HasValueOfUse a)
    action is = elim (or_cases (asks_help (action_of a)) (keeps_values (action_of a) && has_value a) is) [
      | inl help ↦ inl (asks (action_of a) help)
      | inr takes ↦
          let both = and_parts (keeps_values (action_of a)) (has_value a) takes in
          inr (keeps (action_of a) both.0, value_of_use a both.1)
    ]

-- ---- the test

-- Whether the rules are usual.
abbrev pub are_usual : List Rule → Bool
are_usual rules = are_distinct [] rules && list_all is_plain rules

-- A table that passes the test is usual.
pub usual_by_test : (rules : List Rule) → are_usual rules ≡ true → AreUsual rules
usual_by_test rules is =
    let two = and_parts (are_distinct [] rules) (list_all is_plain rules) is in
    each_plain rules rules (each_found rules [] rules (λ id none. refl) two.0) two.1
