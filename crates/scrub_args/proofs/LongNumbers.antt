-- A whole number of 64 bits that is found for an option.
use Rattle.std.proofs.Common.{◌≡◌, ◌≢◌, ◌⊎◌, ◌∙◌, inl, inr, ℕ, Bool, true, false, List, [], ◌∷◌, Option, None, Some, Result, Ok, Err, MatchOption, ap, refl, sym}
use Rattle.std.specs.Prelude.{IfSome, find, if◌then◌else◌, option_and_then, option_map, slice_get}
use Rattle.std.specs.Str.{bytes_eq}
use Rattle.std.specs.Str.Parse.{ParsesUnsigned, ExplainsUnsignedError, HasUnsignedDigitsIfOk}
use Rattle.std.specs.declared.num.ParseIntError.{ParseIntError}
use Rattle.clap.specs.Facts.{parser_of_value}
use Rattle.clap.specs.Kinds.{value_kinds, values_kinds}
use Rattle.clap.specs.ValueTests.{accepts}
use Rattle.clap.specs.Values.{IsUnsignedIn, read_as, reading_of, refused_kind}
use Rattle.clap.specs.Walk.{Row, Rule, Text, arg_by_id, row_text}
use Rattle.clap.specs.Words.{ReadsOne, one_of, one_text, rows_of}
use Rattle.clap.specs.declared.parser.matches.Found.{Found}
use Rattle.clap.specs.declared.builder.value_parser.Reading.TheVariants.{AsWritten}
use Rattle.clap.specs.declared.builder.value_parser.ValueParser.TheVariants.{Unsigned}
use Rattle.clap.specs.declared.error.kind.ErrorKind.{ErrorKind}
use Rattle.clap.proofs.ValueTestLemmas.{accepts-Accepts}
use Rattle.clap.proofs.WalkLemmas.{one_text-rows}
use Rattle.clap_walk.specs.Rows.{EachRow, IsSound}
use Rattle.clap_walk.proofs.Values.{row_found}
use Rattle.clap_walk.proofs.Walks.{parts}
use Rattle.scrub_args.specs.steps.Parsed.{HasLongNumber, MayHaveLongNumber}
use Rattle.scrub_args.specs.Args.{IsLongNumberOf}

-- the parser accepted the value, if there is one
pub may_have_long : (c : List Rule) (rows : List Row) → EachRow (IsSound c) rows → (name : Text) (a : Rule) →
    arg_by_id c name ≡ Some a → a.parser ≡ Some (Unsigned 0 18446744073709551615) → a.ignore_case ≡ false → MayHaveLongNumber rows name
may_have_long c rows sound name a rule parser plain = go (find (λ r. bytes_eq r.id name) rows) refl (row_found c name rows sound)
  where
    accepted : (b : Bool) (k : ErrorKind) → (if b then [] else k ∷ []) ≡ [] → b ≡ true
    accepted true k clean = refl
    accepted false k clean = cc

    first : (r : Row) (values : List Text) → values ≢ [] → values_kinds a.ignore_case (parser_of_value a.parser) values ≡ [] →
        r.reading ≡ AsWritten →
        (text : Text) × (option_map (read_as r.reading) (slice_get values 0) ≡ Some text) × IsUnsignedIn 0 18446744073709551615 text
    first r [] some clean reading = absurd (some refl)
    first r (v ∷ vs) some clean reading =
        let one =
        (parts (value_kinds a.ignore_case (parser_of_value a.parser) v) (values_kinds a.ignore_case (parser_of_value a.parser) vs) clean).0 in
        let passes : accepts false (Unsigned 0 18446744073709551615) v ≡ true =
        accepted _ (refused_kind (Unsigned 0 18446744073709551615)) (rw (plain, parser) at one) in
        (v, rw reading refl, accepts-Accepts false (Unsigned 0 18446744073709551615) v passes)

    go : (o : Option Row) → find (λ r. bytes_eq r.id name) rows ≡ o → IfSome o (λ r. (r.id ≡ name) × IsSound c r) →
        MayHaveLongNumber rows name
    go None at found = inl (ap (option_and_then row_text) at)
    go (Some r) at found =
        let known = found.1 a (ap (arg_by_id c) found.0 ∙ rule) in
        let reading : r.reading ≡ AsWritten = known.2 ∙ ap (λ p. reading_of (parser_of_value p)) parser in
        let one = first r r.values known.0 known.1 reading in
        inr (one.0, ap (option_and_then row_text) at ∙ one.1, one.2)

-- what `parse` gives for a text as a number of 64 bits
abbrev pub ParsesLong : Text → Result ℕ ParseIntError → Type 0
ParsesLong text r = ParsesUnsigned 64 10 text r × ExplainsUnsignedError 10 text r × HasUnsignedDigitsIfOk text r

module _ (f : Found) (name : Text) where
  read_long : (t : Text) (n : ℕ) → one_text f name ≡ Some t → ParsesLong t (Ok n) → IsLongNumberOf (rows_of f) name n
  read_long t n found gives =
      let parsed = gives.0 in
      (t, sym (one_text-rows f name) ∙ found, ((parsed.0.0, sym parsed.1), rw parsed.1 parsed.0.1))

  -- `get_one` gave a number, or there is no value
  pub long_tried : (r : Option ℕ) → MayHaveLongNumber (rows_of f) name → (one_text f name ≡ None → r ≡ None) →
      ((t : Text) → one_text f name ≡ Some t → ReadsOne ParsesLong t r) →
      MatchOption r (one_of name (rows_of f) ≡ None) (IsLongNumberOf (rows_of f) name)
  long_tried None (inl is) none value = is
  long_tried None (inr has) none value =
      let fails = value has.0 (one_text-rows f name ∙ has.1) in
      absurd (fails.1.0 (has.2.0, has.2.1))
  long_tried (Some n) has none value = go (one_text f name) refl
    where
      go : (o : Option Text) → one_text f name ≡ o → IsLongNumberOf (rows_of f) name n
      go None is = cc (none is)
      go (Some t) is = read_long t n is (value t is)
