-- What the getters of `clap` read, by what it found; and what its errors come to.
use Rattle.std.proofs.Common.{◌≡◌, ◌⊎◌, ◌∙◌, ◌<◌, ◌≤◌, ◌^◌, inl, inr, ℕ, Bool, List, [], Option, None, Some, Result, Ok, Err, sym, subst, refl, map, MatchOption, ap, false, true}
use Rattle.std.specs.Prelude.{unwrap_or, option_map, is_none, is_some, ◌&&◌, ◌||◌}
use Rattle.std.proofs.lemmas.Bool.{false≢true}
use Rattle.std.specs.Borrow.{Bor}
use Rattle.std.specs.Str.{bytes_eq}
use Rattle.std.specs.Str.Parse.{ParsesUnsigned, ExplainsUnsignedError, HasUnsignedDigitsIfOk}
use Rattle.std.specs.Option.{UnwrapsOrElse}
use Rattle.std.specs.declared.num.ParseIntError.{ParseIntError}
use Rattle.std.proofs.lemmas.Option.{same_Some}
use Rattle.clap.proofs.CallerReads.{signed_reads}
use Rattle.std.proofs.Common.{arith, codes}
use Rattle.clap.specs.Words.{IsAmong, ReadsOne, Row, Text, without_minus, all_of, fault_of, matched_of, one_of, one_text, raw_values, rows_of, subcommand_of}
use Rattle.clap.specs.declared.parser.matches.Found.{Found}
use Rattle.clap.specs.declared.parser.matches.MatchedArg.{MatchedArg}
use Rattle.clap.specs.declared.error.kind.ErrorKind.{ErrorKind}
use Rattle.clap.specs.declared.error.kind.ErrorKind.TheVariants.{DisplayVersion, OutOfMemory as no_memory}
use Rattle.clap.proofs.OnLiterals.{clap_on_literals}
use Rattle.clap.proofs.WalkLemmas.{one_text-rows, raw_values-rows}
use Rattle.clap_walk.specs.Rows.{HasNumberTo}
use Rattle.scrub_args.specs.declared.args.ScanOutput.{ScanOutput}
use Rattle.scrub_args.specs.declared.args.ScanOutput.TheVariants.{Report, Index, Locators, Runs, Summary, Reclaimable}
use Rattle.scrub_args.specs.declared.args.ArgsFault.{ArgsFault}
use Rattle.scrub_args.specs.declared.args.ArgsFault.TheVariants.{Refused, Help, OutOfMemory}
use Rattle.scrub_args.specs.CommandLine.{shardscrub_app}
use Rattle.scrub_args.specs.steps.Parsed.{ComesOf, HasNumber, HasScan, HasNeeds, IsWholeCommand, IsWholeParse, MayHaveLongNumber, is_dated_command, is_disk_command}
use Rattle.scrub_args.specs.Accepting.{first_unacceptable, refusal_of}
use Rattle.scrub_args.specs.Args.{AreSizesGiven, AskForVersion, HasPartOfSizes, IsTextFault, IsManifestArgsFault, IsNumberOf, IsPartFault, IsRefusal, IsRowsFault, IsArgsFault, IsWorkersOf, RefusesRows, accepted_of, both_text, command_of, has_runs_and_resets, part_text}
use Rattle.scrub_args.specs.declared.args.GivenSizes.{GivenSizes}

-- what `parse` gives for a text as a number of 32 bits
abbrev pub Parses : Text → Result ℕ ParseIntError → Type 0
Parses text r = ParsesUnsigned 32 10 text r × ExplainsUnsignedError 10 text r × HasUnsignedDigitsIfOk text r

module _ (f : Found) (name : Text) where
  read_number : (t : Text) (n : ℕ) → one_text f name ≡ Some t → Parses t (Ok n) → IsNumberOf (rows_of f) name n
  read_number t n found gives =
      let parsed = gives.0 in
      (t, sym (one_text-rows f name) ∙ found, ((parsed.0.0, sym parsed.1), rw parsed.1 parsed.0.1))

  -- `get_one` gave a number
  pub number_read : (n : ℕ) → (one_text f name ≡ None → Some n ≡ None) →
      ((t : Text) → one_text f name ≡ Some t → Parses t (Ok n))
      → IsNumberOf (rows_of f) name n
  number_read n none value = go (one_text f name) refl
    where
      go : (o : Option Text) → one_text f name ≡ o → IsNumberOf (rows_of f) name n
      go None is = cc (none is)
      go (Some t) is = read_number t n is (value t is)

  -- `get_one` gives a number if the parser took one
  pub number_to_there : (most : ℕ) → most < 2 ^ 32 → HasNumberTo most (rows_of f) name →
      ((t : Text) → one_text f name ≡ Some t → (e : ParseIntError) × Parses t (Err e)) → ⊥
  number_to_there most fits has fails =
      let read =
      signed_reads ParseIntError Parses 32 0 most has.0 None (fails (without_minus has.0) (one_text-rows f name ∙ has.1))
      (λ u x g. g.0) fits has.2 in
      cc (read.1)

  -- If the parser took a whole number of 32 bits, `parse` doesn't fail on its text.
  pub number_there : HasNumber (rows_of f) name →
      ((t : Text) → one_text f name ≡ Some t → (e : ParseIntError) × Parses t (Err e)) → ⊥
  number_there = number_to_there 4294967295 (omega arith)

  -- A number that `get_one` gave isn't above the greatest one that the parser takes.
  pub number_up_to : (most : ℕ) (n : ℕ) → most < 2 ^ 32 → (one_of name (rows_of f) ≡ None) ⊎ HasNumberTo most (rows_of f) name →
      (one_text f name ≡ None → Some n ≡ None)
      → ((t : Text) → one_text f name ≡ Some t → Parses t (Ok n)) → IsNumberOf (rows_of f) name n × (n ≤ most)
  number_up_to most n fits (inl is) none value = absurd (no_number (none (one_text-rows f name ∙ is)))
    where
      no_number : Some n ≡ None → ⊥
      no_number is = cc
  number_up_to most n fits (inr has) none value =
      let read =
      signed_reads ParseIntError Parses 32 0 most has.0 (Some n) (value (without_minus has.0) (one_text-rows f name ∙ has.1))
      (λ u x g. g.0) fits has.2 in
      let same : n ≡ read.0 = same_Some n read.0 read.1 in
      (number_read n none value, omega (arith, same, read.3))

  -- `get_one` gave a number, or there is no value
  pub number_tried : (r : Option ℕ) → (one_of name (rows_of f) ≡ None) ⊎ HasNumber (rows_of f) name →
      (one_text f name ≡ None → r ≡ None)
      → ((t : Text) → one_text f name ≡ Some t → ReadsOne Parses t r) → MatchOption r (one_of name (rows_of f) ≡ None)
      (IsNumberOf (rows_of f) name)
  number_tried None (inl is) none value = is
  number_tried None (inr has) none value = absurd (number_there has value)
  number_tried (Some n) has none value = number_read n none value

-- ---- sizes that are given

module _ (found : List Row) where
  abbrev IsReadAs : Text → Option ℕ → Type 0
  IsReadAs name r = MatchOption r (one_of name found ≡ None) (IsNumberOf found name)

  -- none of them
  pub none_given : (p q r : Option ℕ) → IsReadAs (codes "page") p → IsReadAs (codes "pages") q → IsReadAs (codes "extents") r →
      (is_none p && is_none q && is_none r) ≡ true → AreSizesGiven found None
  none_given None None None a b d e = (a, b, d)
  none_given (Some p) None None a b d e = absurd (false≢true e)
  none_given None (Some q) None a b d e = absurd (false≢true e)
  none_given None None (Some r) a b d e = absurd (false≢true e)
  none_given (Some p) (Some q) None a b d e = absurd (false≢true e)
  none_given (Some p) None (Some r) a b d e = absurd (false≢true e)
  none_given None (Some q) (Some r) a b d e = absurd (false≢true e)
  none_given (Some p) (Some q) (Some r) a b d e = absurd (false≢true e)

  -- all of them
  pub all_given : (p q r : Option ℕ) (s : GivenSizes) → IsReadAs (codes "page") p → IsReadAs (codes "pages") q → IsReadAs (codes "extents") r →
      (p ≡ Some s.page) × (q ≡ Some s.pages) × (r ≡ Some s.extents) → AreSizesGiven found (Some s)
  all_given p q r s a b d are = (rw are.0 at a, rw are.1 at b, rw are.2 at d)

  -- a value was found if a number was read
  is_given : (name : Text) (r : Option ℕ) → IsReadAs name r → is_some (one_of name found) ≡ is_some r
  is_given name None none = ap (λ (o : Option Text). is_some o) none
  is_given name (Some n) number = ap (λ (o : Option Text). is_some o) number.1

  one_there : (p q r : Option ℕ) → (is_none p && is_none q && is_none r) ≡ false → (is_some p || is_some q || is_some r) ≡ true
  one_there None None None e = absurd (false≢true (sym e))
  one_there (Some p) None None e = refl
  one_there None (Some q) None e = refl
  one_there None None (Some r) e = refl
  one_there (Some p) (Some q) None e = refl
  one_there (Some p) None (Some r) e = refl
  one_there None (Some q) (Some r) e = refl
  one_there (Some p) (Some q) (Some r) e = refl

  -- some of them
  pub part_given : (p q r : Option ℕ) → IsReadAs (codes "page") p → IsReadAs (codes "pages") q → IsReadAs (codes "extents") r →
      (is_none p && is_none q && is_none r) ≡ false → (is_some p && is_some q && is_some r) ≡ false → HasPartOfSizes found
  part_given p q r a b d e f = record {
    some =
        (λ i. is_given (codes "page") p a i || is_given (codes "pages") q b i || is_given (codes "extents") r d i)
        ∙ one_there p q r e;
    not_all =
        (λ i. is_given (codes "page") p a i && is_given (codes "pages") q b i && is_given (codes "extents") r d i)
        ∙ f;
  }

-- the refusal of a part of the sizes
pub part_fault : (found : List Row) (fault : ArgsFault) → HasPartOfSizes found → IsRefusal part_text fault → IsPartFault found fault
part_fault found (Help text) part refused = absurd refused
part_fault found (Refused text) part refused = (part, refused)
part_fault found OutOfMemory part refused = tt

-- a fault of the sizes is one of its command
pub part_fault_of_rows : (name : Text) (found : List Row) (command : Option (Text × List Row)) (fault : ArgsFault) →
    command ≡ Some (name, found) → IsPartFault found fault → IsRowsFault command fault
part_fault_of_rows name found command (Help text) is why = absurd why
part_fault_of_rows name found command (Refused text) is why = inr (inl (name, found, is, why))
part_fault_of_rows name found command OutOfMemory is why = tt

-- the refusal of index runs beside extents to be taken as reset
pub both_fault : (found : List Row) (fault : ArgsFault) → has_runs_and_resets found ≡ true → IsRefusal both_text fault →
    IsManifestArgsFault found fault
both_fault found (Help text) both refused = absurd refused
both_fault found (Refused text) both refused = inr (both, refused)
both_fault found OutOfMemory both refused = tt

-- a fault of the sizes is one of `manifest`
pub part_fault_of_manifest : (found : List Row) (fault : ArgsFault) → IsPartFault found fault → IsManifestArgsFault found fault
part_fault_of_manifest found (Help text) why = absurd why
part_fault_of_manifest found (Refused text) why = inl why
part_fault_of_manifest found OutOfMemory why = tt

-- a fault of `manifest` is one of its command
pub manifest_fault_of_rows : (found : List Row) (command : Option (Text × List Row)) (fault : ArgsFault) →
    command ≡ Some (codes "manifest", found) → IsManifestArgsFault found fault → IsRowsFault command fault
manifest_fault_of_rows found command (Help text) is why = absurd why
manifest_fault_of_rows found command (Refused text) is (inl part) = inr (inl (codes "manifest", found, is, part))
manifest_fault_of_rows found command (Refused text) is (inr both) = inr (inr (found, is, both))
manifest_fault_of_rows found command OutOfMemory is why = tt

-- texts that were found, or none
pub texts_or_none : (o : Option (Bor (List (Bor Text)))) (r : Bor (List (Bor Text))) (found : Option (List Text)) →
    option_map (λ s. map (λ v. v.now) s.now) o ≡ found
    → UnwrapsOrElse o (λ s. s.now ≡ []) r → map (λ v. v.now) r.now ≡ unwrap_or found []
texts_or_none None r found is default = rw (← is, default) refl
texts_or_none (Some s) r found is default = rw (← is, default) refl

-- A value was found for an option if it has values.
pub found_is : (f : Found) (name : Text) → is_some (matched_of f name) ≡ is_some (all_of name (rows_of f))
found_is f name = mapped (matched_of f name) ∙ ap (λ (o : Option (List Text)). is_some o) (raw_values-rows f name)
  where
    mapped : (o : Option MatchedArg) → is_some o ≡ is_some (option_map raw_values o)
    mapped None = refl
    mapped (Some m) = refl

-- To map an option by `g` and then by `f` is to map it by `f (g x)`.
pub twice : {A B C : Type 0} (f : B → C) (g : A → B) (o : Option A) →
    option_map (λ x. f (g x)) o ≡ option_map f (option_map g o)
twice f g None = refl
twice f g (Some x) = refl

-- the command that was found, from its name and its values
pub found_command : (command : Option (Text × List Row)) (name : Text) (found : List Row) →
    Some name ≡ option_map (λ met. met.0) command → Some found ≡ option_map (λ met. met.1) command → command ≡ Some (name, found)
found_command None name found named has = cc
found_command (Some met) name found named has = rw (same_Some _ _ named, same_Some _ _ has) refl

-- the command that was found has what its name needs
module _ (command : Option (Text × List Row)) (name : Text) (found : List Row) (whole : IsWholeParse command)
    (named : Some name ≡ option_map (λ met. met.0) command)
    (has : Some found ≡ option_map (λ met. met.1) command) where
  -- It has what the command of this name needs.
  pub met_whole : (asked : Text) → name ≡ asked → IsWholeCommand asked found
  met_whole asked is = subst (λ (n : Text). IsWholeCommand n found) is (go command whole named has)
    where
      go : (o : Option (Text × List Row)) → IsWholeParse o → Some name ≡ option_map (λ met. met.0) o →
          Some found ≡ option_map (λ met. met.1) o → IsWholeCommand name found
      go None whole named has = cc
      go (Some met) whole named has = rw (same_Some _ _ named, same_Some _ _ has) whole

  -- A command that lists the whole disk has an image, sizes or none, and at most 64 workers.
  pub disk_of_whole : (wanted : ScanOutput) → name ≡ command_of wanted → HasScan found
  unfolding clap_on_literals
  disk_of_whole wanted is = go wanted (met_whole (command_of wanted) is)
    where
      go : (wanted : ScanOutput) → IsWholeCommand (command_of wanted) found → HasScan found
      go Report has = has
      go Index has = has
      go Locators has = has
      go Runs has = has
      go (Summary last) has = has.scan
      go (Reclaimable accepted last) has = has.scan

  -- a command to which the generation of the last superblock can be given
  pub last_of_whole : is_dated_command name ≡ true → MayHaveLongNumber found (codes "last")
  last_of_whole dated = go (is_dated_command name) dated (met_whole name refl)
    where
      go : (b : Bool) → b ≡ true →
          HasNeeds b (is_disk_command name) (bytes_eq name (codes "manifest")) (bytes_eq name (codes "compare")) (bytes_eq name (codes "shard")) (bytes_eq name (codes "shards")) (bytes_eq name (codes "superblocks")) (bytes_eq name (codes "sizes")) (bytes_eq name (codes "items")) (bytes_eq name (codes "demo")) found
          → MayHaveLongNumber found (codes "last")
      go true e needs = needs.last
      go false e needs = absurd (false≢true e)

-- the fault for an error of `clap`
pub comes_to : (args : List Text) (kind : ErrorKind) (fault : ArgsFault) →
    (kind ≡ no_memory) ⊎ IsAmong kind (fault_of shardscrub_app args) → ComesOf fault kind
    → IsArgsFault args fault
comes_to args kind OutOfMemory has comes = tt
comes_to args kind (Help text) (inl memory) comes = cc
comes_to args kind (Help text) (inr among) comes = rw comes at among
comes_to args kind (Refused text) (inl memory) comes = absurd (comes.2 memory)
comes_to args kind (Refused text) (inr among) comes = inl (kind, comes.0, comes.1, among)

-- an error that asks for the version
pub asks_version : (args : List Text) (kind : ErrorKind) → (kind ≡ no_memory) ⊎ IsAmong kind (fault_of shardscrub_app args) →
    kind ≡ DisplayVersion → AskForVersion args
asks_version args kind (inl memory) version = cc
asks_version args kind (inr among) version = subst (λ k. IsAmong k (fault_of shardscrub_app args)) version among

-- `clap` finds no fault, but the values found are no request
pub rows_fault : (args : List Text) (command : Option (Text × List Row)) (fault : ArgsFault) →
    fault_of shardscrub_app args ≡ [] →
    command ≡ subcommand_of shardscrub_app args → IsRowsFault command fault → IsArgsFault args fault
rows_fault args command (Help text) clean same why = absurd why
rows_fault args command (Refused text) clean same why = inr (clean, subst (λ command. RefusesRows command text.bytes.items) same why)
rows_fault args command OutOfMemory clean same why = tt

-- the refusal of a text that can't be accepted
pub refusal_fault : (found : List Row) (fault : ArgsFault) (first : Text) → first_unacceptable (accepted_of found) ≡ Some first →
    IsRefusal (refusal_of first) fault → IsTextFault found fault
refusal_fault found (Help text) first unknown refused = absurd refused
refusal_fault found (Refused text) first unknown refused = (first, unknown, refused)
refusal_fault found OutOfMemory first unknown refused = tt

-- there are at most 64 workers
pub few_workers : (found : List Row) (n : ℕ) → IsWorkersOf found n → n ≤ 64
few_workers found n (inl default) = omega (arith, default.1)
few_workers found n (inr given) = given.1
