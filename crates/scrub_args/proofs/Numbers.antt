-- The numbers that are found for an option that may be repeated, and the same numbers ascending, each once.
use Rattle.std.proofs.Common.{◌≡◌, ◌∙◌, ◌++◌, ◌∷◌, [], All, Contains, ℕ, List, Option, None, Some, Ok, Err, Bool, true, false, ap, arith, refl, sym, map}
use Rattle.std.specs.Prelude.{◌↔◌, IfSome, find, if◌then◌else◌, option_map, pos, unwrap_or}
use Rattle.std.specs.List.{AllZip, dedup}
use Rattle.std.specs.List.Retain.{IsFiltered, DiffersFromLast}
use Rattle.std.specs.List.Sorted.{IsPermutation, IsSorted, IsStrictlyIncreasing}
use Rattle.std.specs.Ordering.{nat_cmp}
use Rattle.std.specs.Prelude.{eqb}
use Rattle.std.specs.Str.{bytes_eq}
use Rattle.std.specs.declared.num.ParseIntError.{ParseIntError}
use Rattle.std.proofs.lemmas.List.{append_assoc, append-nil}
use Rattle.std.proofs.lemmas.List.Elements.{All-cons, All-head, All-nil, All-tail}
use Rattle.std.proofs.lemmas.List.Filters.{dedup_is}
use Rattle.std.proofs.lemmas.List.Kept.{Contains-dedup_nat, Contains-from_dedup}
use Rattle.std.proofs.lemmas.List.Sorted.{Contains-permutation, IsPermutation-sym}
use Rattle.std.proofs.lemmas.Map.Keys.{IsStrictlyIncreasing-dedup}
use Rattle.clap.specs.Facts.{parser_of_value}
use Rattle.clap.specs.Kinds.{value_kinds, values_kinds}
use Rattle.clap.specs.Matches.{StepsValues}
use Rattle.clap.specs.ValueTests.{accepts}
use Rattle.clap.specs.Values.{read_as, reading_of, refused_kind}
use Rattle.clap.specs.Walk.{Row, Rule, Text, arg_by_id, many_of}
use Rattle.clap.specs.declared.builder.value_parser.Reading.{Reading}
use Rattle.clap.specs.declared.builder.value_parser.Reading.TheVariants.{WithoutMinus}
use Rattle.clap.specs.declared.builder.value_parser.ValueParser.TheVariants.{Signed}
use Rattle.clap.specs.declared.error.kind.ErrorKind.{ErrorKind}
use Rattle.clap.proofs.CallerReads.{signed_reads}
use Rattle.clap.proofs.ValueTestLemmas.{accepts-Accepts}
use Rattle.clap_walk.specs.Rows.{EachRow, IsSound}
use Rattle.clap_walk.proofs.Values.{row_found}
use Rattle.clap_walk.proofs.Walks.{parts}
use Rattle.scrub_args.specs.steps.Parsed.{HasNumbers, IsReadNumber}
use Rattle.scrub_args.specs.Args.{AreNumbersOf, IsNumeralOf}
use Rattle.scrub_args.proofs.ArgsFound.{Parses}

-- ---- what is found

-- the parser accepted each value
pub has_numbers : (c : List Rule) (rows : List Row) → EachRow (IsSound c) rows → (name : Text) (a : Rule) →
    arg_by_id c name ≡ Some a → a.parser ≡ Some (Signed (pos 0) (pos 4294967295)) → a.ignore_case ≡ false → HasNumbers rows name
has_numbers c rows sound name a rule parser plain = go (find (λ r. bytes_eq r.id name) rows) (row_found c name rows sound)
  where
    accepted : (b : Bool) (k : ErrorKind) → (if b then [] else k ∷ []) ≡ [] → b ≡ true
    accepted true k clean = refl
    accepted false k clean = cc

    each : (how : Reading) (values : List Text) → how ≡ WithoutMinus →
        values_kinds a.ignore_case (parser_of_value a.parser) values ≡ [] → All IsReadNumber (map (read_as how) values)
    each how [] is clean = All-nil IsReadNumber
    each how (v ∷ vs) is clean =
        let two =
        parts (value_kinds a.ignore_case (parser_of_value a.parser) v) (values_kinds a.ignore_case (parser_of_value a.parser) vs) clean in
        let passes : accepts false (Signed (pos 0) (pos 4294967295)) v ≡ true =
        accepted _ (refused_kind (Signed (pos 0) (pos 4294967295))) (rw (plain, parser) at two.0) in
        All-cons IsReadNumber (read_as how v) (map (read_as how) vs)
        (v, rw is refl, accepts-Accepts false (Signed (pos 0) (pos 4294967295)) v passes) (each how vs is two.1)

    go : (o : Option Row) → IfSome o (λ r. (r.id ≡ name) × IsSound c r) →
        All IsReadNumber (unwrap_or (option_map (λ r. map (read_as r.reading) r.values) o) [])
    go None found = All-nil IsReadNumber
    go (Some r) found =
        let known = found.1 a (ap (arg_by_id c) found.0 ∙ rule) in
        each r.reading r.values (known.2 ∙ ap (λ p. reading_of (parser_of_value p)) parser) known.1

-- none were found
pub no_numbers : (found : List Row) (name : Text) (numbers : List ℕ) → None ≡ many_of name found → numbers ≡ [] →
    AreNumbersOf found name numbers
no_numbers found name numbers none empty = rw (← none, empty) tt

-- these were
module _ (found : List Row) (name : Text) (all : List Text) (are : Some all ≡ many_of name found) where
  -- If the parser took only numbers of 32 bits, each of these texts is read of one.
  pub each_number : HasNumbers found name → All IsReadNumber all
  each_number has = rw (← are) at has

  -- Numbers that these texts spell, one by one, are those found for the option.
  pub numbers_found : (numbers : List ℕ) → AllZip IsNumeralOf all numbers → AreNumbersOf found name numbers
  numbers_found numbers numerals = rw (← are) numerals

-- ---- one value after another

-- so many values were read as these numbers, and these are left
pub record AreReadSoFar (all left : List Text) (numbers : List ℕ) : Type 0 where
  read : List Text
  joined : all ≡ read ++ left
  numerals : AllZip IsNumeralOf read numbers
  more : All IsReadNumber left

-- a value that was parsed
numeral_read : (text : Text) (n : ℕ) → Parses text (Ok n) → IsNumeralOf text n
numeral_read text n gives =
    let parsed = gives.0 in
    ((parsed.0.0, sym parsed.1), rw parsed.1 parsed.0.1)

-- it can be parsed if its parser accepted it
never_fails : (text : Text) (e : ParseIntError) → IsReadNumber text → Parses text (Err e) → ⊥
never_fails text e has fails =
    let read =
    signed_reads ParseIntError Parses 32 0 4294967295 has.0 None (e, rw has.1 at fails) (λ u x g. g.0) (omega arith) has.2 in
    cc (read.1)

one_more : (read : List Text) (numbers : List ℕ) (text : Text) (n : ℕ) → AllZip IsNumeralOf read numbers → IsNumeralOf text n →
    AllZip IsNumeralOf (read ++ text ∷ []) (numbers ++ n ∷ [])
one_more [] [] text n numerals next = (next, tt)
one_more [] (m ∷ numbers) text n numerals next = absurd numerals
one_more (t ∷ read) [] text n numerals next = absurd numerals
one_more (t ∷ read) (m ∷ numbers) text n numerals next = (numerals.0, one_more read numbers text n numerals.1 next)

-- no value was read
pub none_read : (all : List Text) → All IsReadNumber all → AreReadSoFar all all []
none_read all each = record { read = []; joined = refl; numerals = tt; more = each }

-- one more was
pub next_read : (all left after : List Text) (numbers more : List ℕ) (n : ℕ) → AreReadSoFar all left numbers →
    StepsValues Parses left after (Some (Ok n)) → more ≡ numbers ++ n ∷ [] → AreReadSoFar all after more
next_read all [] after numbers more n so_far step grown = absurd step
next_read all (text ∷ rest) after numbers more n so_far step grown = record {
  read = so_far.read ++ text ∷ [];
  joined = so_far.joined ∙ sym (append_assoc so_far.read (text ∷ []) rest) ∙ ap (λ left. (so_far.read ++ text ∷ []) ++ left) (sym step.1);
  numerals = rw grown (one_more so_far.read numbers text n so_far.numerals (numeral_read text n step.0));
  more = rw step.1 (All-tail IsReadNumber text rest so_far.more);
}

-- none failed
pub none_fails : (all left after : List Text) (numbers : List ℕ) (e : ParseIntError) → AreReadSoFar all left numbers →
    StepsValues Parses left after (Some (Err e)) → ⊥
none_fails all [] after numbers e so_far step = step
none_fails all (text ∷ rest) after numbers e so_far step =
    never_fails text e (All-head IsReadNumber text rest so_far.more) step.0

-- all were read
pub all_read : (all left after : List Text) (numbers : List ℕ) → AreReadSoFar all left numbers →
    StepsValues {T = ℕ} Parses left after None → AllZip IsNumeralOf all numbers
all_read all [] after numbers so_far step =
    rw (so_far.joined ∙ append-nil so_far.read) so_far.numerals
all_read all (text ∷ rest) after numbers so_far step = absurd step

-- ---- ascending, each once

-- Numbers sorted, with repetitions left out, ascend strictly and are the same numbers.
pub rising_once : (numbers sorted once : List ℕ) → IsPermutation numbers sorted → IsSorted nat_cmp sorted →
    IsFiltered (DiffersFromLast eqb) [] sorted once →
    IsStrictlyIncreasing once × ((n : ℕ) → Contains numbers n ↔ Contains once n)
rising_once numbers sorted once moved rising left =
    let is : once ≡ dedup eqb sorted = dedup_is eqb sorted once left in (
      rw is (IsStrictlyIncreasing-dedup sorted rising),
      λ n. (
        λ there. rw is (Contains-dedup_nat sorted n (Contains-permutation numbers sorted n moved there)),
        λ there. Contains-permutation sorted numbers n (IsPermutation-sym numbers sorted moved) (Contains-from_dedup eqb sorted n (rw is at there)),
      ),
    )
