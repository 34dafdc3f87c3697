-- What is found in arguments without a fault: those that are required, and the values of each.
use Rattle.std.proofs.Common.{◌≡◌, ◌⊎◌, ◌∙◌, ℕ, inl, inr, Bool, true, false, List, [], ◌∷◌, Option, None, Some, refl, sym, ap, subst, not}
use Rattle.std.specs.Prelude.{IfSome, find, if◌then◌else◌, ◌&&◌, option_and_then, pos, slice_get}
use Rattle.std.specs.List.{list_any}
use Rattle.std.specs.Str.{bytes_eq}
use Rattle.std.proofs.lemmas.Bool.{and_cases, false≢true, not-false, or_parts}
use Rattle.std.proofs.lemmas.Option.{same_Some}
use Rattle.std.proofs.lemmas.Slice.Eq.{bytes_eq-Decides}
use Rattle.clap.specs.Words.{IsSignedIn, without_minus, Row, Rule, Text, first_of, one_of}
use Rattle.clap.specs.Kinds.{check_kinds}
use Rattle.clap.specs.Simple.{Shape, rows_at}
use Rattle.clap.specs.Takes.{is_given}
use Rattle.clap.specs.Values.{bool_text}
use Rattle.clap.specs.Walk.{arg_by_id, finished, is_empty, nothing_held, row_text, settled, walk, walk_from}
use Rattle.clap.specs.Faults.{check_fault, defaults_fault, settle_fault, walk_fault}
use Rattle.clap.specs.declared.builder.value_parser.ValueParser.TheVariants.{Signed, Bool as bool_parser}
use Rattle.clap_walk.specs.Rows.{EachRow, HasNumberTo, IsSound}
use Rattle.clap_walk.specs.Rules.{AreClean, AreUsual, IsUsual}
use Rattle.clap_walk.proofs.Walks.{parts, settled_keeps, walk_keeps}
use Rattle.clap_walk.proofs.Values.{default_there, defaults_keep, flag_there, given_row, number_there, row_there, text_there, use_keeps}

-- the rows of a command's arguments without a fault
pub rows_sound : (s : Shape) → AreUsual s.rules → (words : List Text) → AreClean s words
    → EachRow (IsSound s.rules) (finished s.rules (walk s.rules [] nothing_held words).held)
    × (check_fault s (finished s.rules (walk s.rules [] nothing_held words).held) false ≡ [])
rows_sound s usual words clean =
    let end = (walk s.rules [] nothing_held words).held in
    let again = s.args_override_self in
    let walks = parts (walk_fault s [] (walk_from nothing_held) words) _ clean in
    let settles = parts (settle_fault s.rules again end) _ walks.1 in
    let defaults =
    parts (defaults_fault (settled s.rules end).rows s.rules) (check_fault s (finished s.rules end) false) settles.1 in
    let keeps = use_keeps s.rules again in
    let walked =
    walk_keeps s (EachRow (IsSound s.rules)) (IsUsual s.rules) usual keeps [] (walk_from nothing_held) words tt
    walks.0 in
    let rows = settled_keeps s (EachRow (IsSound s.rules)) (IsUsual s.rules) usual keeps end walked settles.0 in
    (defaults_keep s.rules s.rules (settled s.rules end).rows usual rows defaults.0, defaults.1)

-- If no fault says that an argument is missing, one that is required is given.
required_given : (s : Shape) (rows : List Row) → check_fault s rows false ≡ [] → (name : Text) (a : Rule) →
    arg_by_id s.rules name ≡ Some a → a.required ≡ true → is_given name rows ≡ true
required_given s rows clean name a rule required =
    among s.rules (none_lacks _ _ s.subcommand_negates_reqs _ clean) rule
  where
    none_lacks : (help command negates lacks : Bool) → check_kinds help command (not (negates && false) && lacks) ≡ [] → lacks ≡ false
    none_lacks true command negates lacks clean = cc
    none_lacks false true negates lacks clean = cc
    none_lacks false false true true clean = cc
    none_lacks false false false true clean = cc
    none_lacks false false negates false clean = refl

    among : (c : List Rule) → list_any (λ b. b.required && not (is_given b.id rows)) c ≡ false → arg_by_id c name ≡ Some a →
        is_given name rows ≡ true
    among [] none rule = cc
    among (b ∷ more) none rule =
        let two = or_parts (b.required && not (is_given b.id rows)) (list_any (λ b. b.required && not (is_given b.id rows)) more) none in
        go (bytes_eq b.id name) refl (among more two.1) two.0 rule
      where
        go : (t : Bool) → bytes_eq b.id name ≡ t → (arg_by_id more name ≡ Some a → is_given name rows ≡ true) →
            (b.required && not (is_given b.id rows)) ≡ false → (if t then Some b else arg_by_id more name) ≡ Some a →
            is_given name rows ≡ true
        go false at later own rule = later rule
        go true at later own rule = elim (and_cases b.required (not (is_given b.id rows)) own) [
          | inl free ↦ absurd (false≢true (sym free ∙ (ap (λ (r : Rule). r.required) (same_Some b a rule) ∙ required)))
          | inr given ↦ subst (λ id. is_given id rows ≡ true) ((bytes_eq-Decides b.id name).0 at) (not-false (is_given b.id rows) given)
        ]

-- The rule with this name takes a whole number up to a maximum.
abbrev pub IsNumberRule : List Rule → ℕ → Text → Type 0
IsNumberRule c most name =
    (a : Rule) × (arg_by_id c name ≡ Some a) × (a.parser ≡ Some (Signed (pos 0) (pos most))) × (a.ignore_case ≡ false)

-- The rule with this name is required.
abbrev pub IsRequiredRule : List Rule → Text → Type 0
IsRequiredRule c name = (a : Rule) × (arg_by_id c name ≡ Some a) × (a.required ≡ true)

-- The rule with this name is a flag: true or false, and by default one of these.
abbrev pub IsFlagRule : List Rule → Text → Type 0
IsFlagRule c name =
    (a : Rule) × (arg_by_id c name ≡ Some a) × (a.parser ≡ Some bool_parser) × (is_empty a.defaults ≡ false)

module _ (s : Shape) (usual : AreUsual s.rules) (words : List Text) (clean : AreClean s words) where
  -- An argument that is required has a first value.
  pub has_text : (name : Text) → IsRequiredRule s.rules name → (text : Text) × (first_of name (rows_at s words).1 ≡ Some text)
  has_text name r =
      let known = rows_sound s usual words clean in
      let given = required_given s (rows_at s words).1 known.1 name r.0 r.1 r.2 in
      let row = given_row _ name (rows_at s words).1 given (text_there s.rules name r.0 (rows_at s words).1 known.0 r.1) in
      (row.2.0, ap (option_and_then (λ (r : Row). slice_get r.values 0)) row.1 ∙ row.2.1)

  -- A flag is true or false.
  pub has_flag : (name : Text) → IsFlagRule s.rules name → (b : Bool) × (one_of name (rows_at s words).1 ≡ Some (bool_text b))
  has_flag name r =
      let known = rows_sound s usual words clean in
      let there = default_there name r.0 s.rules (settled s.rules (walk s.rules [] nothing_held words).held).rows r.1 r.3 in
      let row = row_there _ name (rows_at s words).1 there (flag_there s.rules name r.0 (rows_at s words).1 known.0 r.1 r.2) in
      (row.2.0, ap (option_and_then row_text) row.1 ∙ row.2.1)

  module _ (most : ℕ) (name : Text) (r : IsNumberRule s.rules most name) where
    -- An argument for a number has no value, or a whole number from 0 to `most`.
    pub may_have_number : (one_of name (rows_at s words).1 ≡ None) ⊎ HasNumberTo most (rows_at s words).1 name
    may_have_number =
        let known = rows_sound s usual words clean in
        go (find (λ r. bytes_eq r.id name) (rows_at s words).1) refl
        (number_there most s.rules name r.0 (rows_at s words).1 known.0 r.1 r.2 r.3)
      where
        go : (o : Option Row) → find (λ r. bytes_eq r.id name) (rows_at s words).1 ≡ o
            → IfSome o
            (λ r. (text : Text) × (row_text r ≡ Some (without_minus text)) × IsSignedIn (pos 0) (pos most) text)
            → (one_of name (rows_at s words).1 ≡ None) ⊎ HasNumberTo most (rows_at s words).1 name
        go None at there = inl (ap (option_and_then row_text) at)
        go (Some r) at there = inr (there.0, ap (option_and_then row_text) at ∙ there.1, there.2)

    -- One that is required has such a number.
    pub has_number : r.0.required ≡ true → HasNumberTo most (rows_at s words).1 name
    has_number required =
        let known = rows_sound s usual words clean in
        let given = required_given s (rows_at s words).1 known.1 name r.0 r.1 required in
        let row = given_row _ name (rows_at s words).1 given (number_there most s.rules name r.0 (rows_at s words).1 known.0 r.1 r.2 r.3) in
        (row.2.0, ap (option_and_then row_text) row.1 ∙ row.2.1, row.2.2)
