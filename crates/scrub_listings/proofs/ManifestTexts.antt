-- What the text of a manifest says, read line by line and word by word: so two disks with one manifest hold the same.
use Rattle.std.proofs.Common.{◌≡◌, ◌<◌, ◌≤◌, ◌+◌, ◌/◌, ◌%◌, ◌^◌, ◌++◌, ◌∷◌, ◌==◌, ◌&&◌, [], ℕ, Bool, true, false, not, is_none, Option, Some, None, List, length, map, take, drop, get_or, arith, refl, sym, ◌∙◌, ap, subst, append-nil, append_assoc, MatchOption, if◌then◌else◌}
use Rattle.std.specs.Prelude.{IfSome, codes}
use Rattle.std.specs.Option.{unwrap_or}
use Rattle.std.specs.Fmt.{decimal}
use Rattle.std.specs.List.{All, enumerate_from, filter, flat_map, list_all}
use Rattle.std.specs.Str.{bytes_eq}
use Rattle.std.specs.Str.Parse.{digits_value}
use Rattle.std.proofs.Math.Path.{ap₂}
use Rattle.std.proofs.lemmas.Bool.{false≢true}
use Rattle.std.proofs.lemmas.Fmt.{decimal_is_IsNumeral}
use Rattle.std.proofs.lemmas.Option.{none-some}
use Rattle.std.proofs.lemmas.List.{map-append, take-append-drop}
use Rattle.std.proofs.lemmas.List.Sums.{count_by-le-length}
use Rattle.std.proofs.lemmas.List.Folds.{flat_map-map, list_all-map}
use Rattle.std.proofs.lemmas.List.Elements.{All-drop, All-head, All-nil, All-tail, All-take, All-weaker}
use Rattle.hex.specs.Hex.{encode_lower}
use Rattle.list_facts.proofs.Elements.{nil_has_no_first}
use Rattle.scrub_disk.specs.Image.{Image}
use Rattle.scrub_frame.specs.declared.form.Form.{Form}
use Rattle.scrub_frame.specs.declared.form.Form.TheVariants.{Plain, Sealed}
use Rattle.scrub_frame.specs.declared.locator.Locator.{Locator}
use Rattle.scrub_frame.specs.Locator.{IsLocator}
use Rattle.scrub_super.specs.Chosen.{Choice, IsChoice}
use Rattle.scrub_super.specs.Contents.{Contents}
use Rattle.scrub_super.specs.Plan.{PlanValue, plan_of}
use Rattle.scrub_super.specs.steps.PlanParts.{IsPlanBy, IsPlanWithout}
use Rattle.scrub_super.proofs.PlanParts.{plan_parts}
use Rattle.scrub_super.specs.Planned.{AreRetired}
use Rattle.scrub_super.specs.Record.{AreContents}
use Rattle.scrub_super.proofs.NewestRecords.{superblock_fits}
use Rattle.scrub_run.specs.steps.Parts.{IsEntry}
use Rattle.scrub_merge.specs.Binding.{BindingValue, IsNewestBinding, Runs}
use Rattle.scrub_scan.specs.Line.{spaced}
use Rattle.scrub_scan.specs.Scanned.{Scanned}
use Rattle.scrub_scan.specs.declared.standing.Standing.{Standing}
use Rattle.scrub_check.specs.declared.named.Owner.{Owner}
use Rattle.scrub_check.specs.declared.named.Owner.TheVariants.{Run, Shard}
use Rattle.scrub_check.specs.declared.statuses.checked.Checked.{Checked}
use Rattle.scrub_check.specs.declared.statuses.status.Status.{Status}
use Rattle.scrub_check.specs.declared.statuses.status.Status.TheVariants.{OutOfRange, Retired, PastPointer, Unreadable, NoFrame, WrongUuid, WrongLength, WrongDigest, Hidden, Sound}
use Rattle.scrub_check.specs.Checked.{is_hidden, is_sound, named_of}
use Rattle.scrub_check.specs.ChunkForms.{form_at}
use Rattle.scrub_check.proofs.Listed.{as_many}
use Rattle.scrub_loose.specs.Loose.{best_of}
use Rattle.scrub_loose.specs.declared.copies.BestCopy.{BestCopy}
use Rattle.scrub_loose.specs.declared.copies.BestCopy.TheVariants.{Nowhere, Loose, Spare}
use Rattle.scrub_found.specs.Resets.{IsScrubbedBut}
use Rattle.scrub_found.specs.Scrubbed.{Scrubbed}
use Rattle.scrub_found.specs.Texts.{owner_text, status_text, uuid_text}
use Rattle.scrub_found.proofs.FewBindings.{entries_are, indexed, runs_few}
use Rattle.scrub_found.proofs.ResetPlans.{plan_before}
use Rattle.scrub_listings.specs.Manifest.{HeldValue, HoldTheSame, after_status_in, all_held, copy_word, form_text, form_word, held_locator, hidden_runs, is_of_read_run, is_whole, looked_for, lost_run_count, manifest_text, numbered_line, numbered_lines, numbered_text, of_shards, retired_line, runs_line, shard_lines, text_by, total_line, two_digits}
use Rattle.scrub_listings.proofs.ShardLines.{AreAlong, along_behind, along_runs, hidden_few, line_of, lines_along, lines_are, of_each_shard, shards_part}
use Rattle.scrub_listings.proofs.Words.{AreWords, IsWord, decimal_word, hex_word, joined, line, line_is, lines_of, next_line, uuid_word}

-- ---- the words of a locator's line

-- the number that a word writes
abbrev pub number_of : List ℕ → ℕ
number_of word = digits_value 10 word

-- A number below `2 ^ 64` is the one that its decimal digits write.
pub number_back : (n : ℕ) → n < 2 ^ 64 → number_of (decimal n) ≡ n
number_back n small = (decimal_is_IsNumeral n small).1

-- the status of a word
abbrev status_of : List ℕ → Status
status_of u =
    get_or (filter (λ s. bytes_eq u (status_text s)) (OutOfRange ∷ Retired ∷ PastPointer ∷ Unreadable ∷ NoFrame ∷ WrongUuid ∷ WrongLength ∷ WrongDigest ∷ Hidden ∷ Sound ∷ [])) 0 Sound

status_word : (s : Status) → IsWord (status_text s) × (status_of (status_text s) ≡ s)
status_word OutOfRange = (refl, refl)
status_word Retired = (refl, refl)
status_word PastPointer = (refl, refl)
status_word Unreadable = (refl, refl)
status_word NoFrame = (refl, refl)
status_word WrongUuid = (refl, refl)
status_word WrongLength = (refl, refl)
status_word WrongDigest = (refl, refl)
status_word Hidden = (refl, refl)
status_word Sound = (refl, refl)

-- the words for the owner of a locator
abbrev pub kind_word : Owner → List ℕ
kind_word (Run number) = codes "run"
kind_word (Shard id) = codes "shard"

abbrev pub name_word : Owner → List ℕ
name_word (Run number) = decimal number
name_word (Shard id) = encode_lower id.0

owner_words : (o : Owner) → AreWords (kind_word o ∷ name_word o ∷ []) × (kind_word o ++ spaced (name_word o) ≡ owner_text o)
owner_words (Run number) = ((refl, (decimal_word number, tt)), refl)
owner_words (Shard id) = ((refl, (hex_word id.0, tt)), refl)

-- the words behind a status whatever the best copy is: the one for the form of a chunk, or those for where it is looked for
abbrev pub place_words : Bool → Option Form → Locator → List (List ℕ)
place_words true None l = []
place_words true (Some form) l = form_word form ∷ []
place_words false form l = decimal l.extent ∷ decimal l.offset ∷ uuid_text l.uuid ∷ []

-- The text of that is these words, with a space before each.
pub place_is : (sound : Bool) (form : Option Form) (l : Locator) →
    (if sound then form_text form else looked_for l) ≡ flat_map spaced (place_words sound form l)
place_is true None l = refl
place_is true (Some form) l = sym (append-nil (spaced (form_word form)))
place_is false form l = line_is [] (place_words false form l)

-- They have no spaces and no line feeds.
pub places_are_words : (sound : Bool) (form : Option Form) (l : Locator) → AreWords (place_words sound form l)
places_are_words true None l = tt
places_are_words true (Some Plain) l = (refl, tt)
places_are_words true (Some Sealed) l = (refl, tt)
places_are_words false form l = (decimal_word l.extent, (decimal_word l.offset, (uuid_word l.uuid, tt)))

-- all words behind a status, by whether it is sound or hidden
abbrev pub after_words : Bool → Bool → Option Form → BestCopy → Locator → List (List ℕ)
after_words false false form best l = decimal l.extent ∷ decimal l.offset ∷ uuid_text l.uuid ∷ copy_word best ∷ []
after_words sound hides form best l = place_words sound form l

-- the text of these words, by whether the status is sound or hidden
abbrev pub after_text : Bool → Bool → Option Form → BestCopy → Locator → List ℕ
after_text sound hides form best l = if sound then form_text form else looked_for l ++ (if not sound && not hides then spaced (copy_word best) else [])

-- That is these words, with a space before each.
pub after_is : (sound hides : Bool) (form : Option Form) (best : BestCopy) (l : Locator) →
    after_text sound hides form best l ≡ flat_map spaced (after_words sound hides form best l)
after_is true hides form best l = place_is true form l
after_is false true form best l = append-nil (looked_for l) ∙ place_is false form l
after_is false false form best l = line_is [] (after_words false false form best l)

-- They have no spaces and no line feeds.
pub after_are_words : (sound hides : Bool) (form : Option Form) (best : BestCopy) (l : Locator) → AreWords (after_words sound hides form best l)
after_are_words true hides form best l = places_are_words true form l
after_are_words false true form best l = places_are_words false form l
after_are_words false false form best l = (decimal_word l.extent, (decimal_word l.offset, (uuid_word l.uuid, (best_word best, tt))))
  where
    best_word : (b : BestCopy) → IsWord (copy_word b)
    best_word Nowhere = refl
    best_word Loose = refl
    best_word Spare = refl

-- the words of a locator's line behind the first, by those behind its status
abbrev pub words_behind : ℕ → Checked → List (List ℕ) → List (List ℕ)
words_behind number c after =
    name_word c.owner ∷ two_digits number ∷ decimal c.locator.length ∷ encode_lower c.locator.digest ∷ status_text c.status ∷ after

-- A locator's line is made of these words.
pub numbered_is : (number : ℕ) (c : Checked) (after : List (List ℕ)) →
    numbered_text number c ++ flat_map spaced after ≡ line (kind_word c.owner) (words_behind number c after)
numbered_is number c after =
    sym (line_is (numbered_text number c) after)
    ∙ ap (λ (u : List ℕ). line (u ++ spaced (two_digits number) ++ spaced (decimal c.locator.length) ++ spaced (encode_lower c.locator.digest) ++ spaced (status_text c.status)) after) (sym (owner_words c.owner).1)

-- They have no spaces and no line feeds.
pub numbered_are_words : (number : ℕ) (c : Checked) (after : List (List ℕ)) → AreWords after →
    AreWords (kind_word c.owner ∷ words_behind number c after)
numbered_are_words number c after words =
    let owner = (owner_words c.owner).0 in
    let two = joined (decimal (number / 10)) (decimal (number % 10)) (decimal_word (number / 10)) (decimal_word (number % 10)) in
    (owner.0, (owner.1.0, (two, (decimal_word c.locator.length, (hex_word c.locator.digest, ((status_word c.status).0, words))))))

-- ---- what a text says

-- what a line says of a shard's locator, if it has that many words
abbrev said_of : List (List ℕ) → List HeldValue
said_of (kind ∷ name ∷ number ∷ length ∷ digest ∷ status ∷ after) =
    record { owner = kind ++ spaced name; length = number_of length; digest = digest; status = status_of status; after = flat_map spaced after } ∷ []
said_of short = []

-- what the lines of a text say of shards' locators
abbrev shards_in : List ℕ → List HeldValue
shards_in text = flat_map said_of (lines_of text)

-- that there is a superblock, the retired extents, the numbers of lost and of hidden runs, and what is said of shards' locators
abbrev SaidValue : Type 0
SaidValue = Bool × List ℕ × ℕ × ℕ × List HeldValue

-- what lines of words say
abbrev said_by : List (List (List ℕ)) → SaidValue
said_by ((first ∷ retired) ∷ (runs ∷ lost ∷ l ∷ hidden ∷ h ∷ []) ∷ shards) =
    (true, map number_of retired, number_of l, number_of h, flat_map said_of shards)
said_by other = (false, [], 0, 0, [])

abbrev IsSmallNumber : ℕ → Type 0
IsSmallNumber n = n < 2 ^ 64

-- the numbers of a locator are small
pub record HasSmallNumbers (l : Locator) : Type 0 where
  pub extent : l.extent < 2 ^ 64
  pub offset : l.offset < 2 ^ 64
  pub length : l.length < 2 ^ 64

-- the numbers of its locator are small
abbrev pub IsSmall : Checked → Type 0
IsSmall c = HasSmallNumbers c.locator

module _ (all : List Scanned) (loose : List Standing) where
  abbrev after : Checked → List ℕ
  after = after_status_in all loose

  abbrev held : Checked → HeldValue
  held = held_locator all loose

  said_first : (number : ℕ) (c : Checked) (rest : List ℕ) → c.locator.length < 2 ^ 64 →
      shards_in (numbered_line after number c ++ rest) ≡ held c ∷ shards_in rest
  said_first number c rest small =
      let form = form_at all c.locator in
      let best = best_of all loose c in
      let words = after_words (is_sound c.status) (is_hidden c.status) form best c.locator in
      let is : after c ≡ flat_map spaced words = after_is (is_sound c.status) (is_hidden c.status) form best c.locator in
      ap (λ (u : List ℕ). shards_in ((u ++ 10 ∷ []) ++ rest)) (ap (λ (u : List ℕ). numbered_text number c ++ u) is ∙ numbered_is number c words)
      ∙ ap (flat_map said_of) (next_line (kind_word c.owner) (words_behind number c words) rest (numbered_are_words number c words (after_are_words (is_sound c.status) (is_hidden c.status) form best c.locator)))
      ∙ (λ i. record { owner = (owner_words c.owner).1 i; length = number_back c.locator.length small i; digest = encode_lower c.locator.digest; status = (status_word c.status).1 i; after = sym is i } ∷ shards_in rest)

  said_numbered : (k : ℕ) (cs : List Checked) (rest : List ℕ) → All IsSmall cs →
      shards_in (flat_map (line_of after) (enumerate_from k cs) ++ rest) ≡ map held cs ++ shards_in rest
  said_numbered k [] rest small = refl
  said_numbered k (c ∷ cs) rest small =
      let behind = flat_map (line_of after) (enumerate_from (k + 1) cs) in
      ap shards_in (append_assoc (numbered_line after k c) behind rest)
      ∙ said_first k c (behind ++ rest) (All-head IsSmall c cs small).length
      ∙ ap (λ (hs : List HeldValue). held c ∷ hs) (said_numbered (k + 1) cs rest (All-tail IsSmall c cs small))

  said_along : (bs : List BindingValue) (cs : List Checked) (rest : List ℕ) → AreAlong bs cs → All IsSmall cs →
      shards_in (lines_along after bs cs ++ rest) ≡ map held cs ++ shards_in rest
  said_along [] [] rest same small = refl
  said_along [] (c ∷ cs) rest same small = absurd (nil_has_no_first (named_of c) (map named_of cs) (sym same))
  said_along (b ∷ bs) cs rest same small =
      let own = take (length b.locators) cs in
      let others = drop (length b.locators) cs in
      ap shards_in (append_assoc (numbered_lines after own) (lines_along after bs others) rest)
      ∙ said_numbered 0 own (lines_along after bs others ++ rest) (All-take IsSmall (length b.locators) cs small)
      ∙ ap (λ (hs : List HeldValue). map held own ++ hs)
      (said_along bs others rest (along_behind b bs cs same) (All-drop IsSmall (length b.locators) cs small))
      ∙ sym (append_assoc (map held own) (map held others) (shards_in rest))
      ∙ ap (λ (hs : List HeldValue). hs ++ shards_in rest)
      (sym (map-append held own others) ∙ ap (map held) (take-append-drop (length b.locators) cs))

numbers_back : (ns : List ℕ) → All IsSmallNumber ns → map number_of (map decimal ns) ≡ ns
numbers_back [] small = refl
numbers_back (n ∷ ns) small =
    ap₂ (λ (m : ℕ) (ms : List ℕ). m ∷ ms) (number_back n (All-head IsSmallNumber n ns small)) (numbers_back ns (All-tail IsSmallNumber n ns small))

numbers_are_words : (ns : List ℕ) → AreWords (map decimal ns)
numbers_are_words [] = tt
numbers_are_words (n ∷ ns) = (decimal_word n, numbers_are_words ns)

-- the lines of a text with a superblock, by the text of the shards' lines
said_whole : (retired : List ℕ) (lost hidden shards locators : ℕ) (text : List ℕ) (hs : List HeldValue) → All IsSmallNumber retired →
    IsSmallNumber lost → IsSmallNumber hidden → ((rest : List ℕ) → shards_in (text ++ rest) ≡ hs ++ shards_in rest) →
    said_by (lines_of (retired_line retired ++ runs_line lost hidden ++ text ++ total_line shards locators)) ≡ (true, retired, lost, hidden, hs)
said_whole retired lost hidden shards locators text hs hr hl hh said =
    let total = total_line shards locators in
    let first : codes "retired" ++ flat_map (λ e. spaced (decimal e)) retired ≡ line (codes "retired") (map decimal retired) =
    ap (λ (u : List ℕ). codes "retired" ++ u) (sym (flat_map-map spaced decimal retired)) ∙ sym (line_is (codes "retired") (map decimal retired)) in
    let last : shards_in total ≡ [] =
    ap shards_in (sym (append-nil total))
    ∙ ap (flat_map said_of) (next_line (codes "total") (decimal shards ∷ decimal locators ∷ []) [] (refl, (decimal_word shards, (decimal_word locators, tt)))) in
    ap (λ (u : List ℕ). said_by (lines_of u))
    (append_assoc (retired_line retired ++ runs_line lost hidden) text total
    ∙ append_assoc (retired_line retired) (runs_line lost hidden) (text ++ total)
    ∙ ap (λ (u : List ℕ). (u ++ 10 ∷ []) ++ (runs_line lost hidden ++ (text ++ total))) first)
    ∙ ap said_by
    (next_line (codes "retired") (map decimal retired) (runs_line lost hidden ++ (text ++ total)) (refl, numbers_are_words retired)
    ∙ ap (λ (ls : List (List (List ℕ))). (codes "retired" ∷ map decimal retired) ∷ ls)
    (next_line (codes "runs") (codes "lost" ∷ decimal lost ∷ codes "hidden" ∷ decimal hidden ∷ []) (text ++ total)
    (refl, (refl, (decimal_word lost, (refl, (decimal_word hidden, tt)))))))
    ∙ (λ i. (true, numbers_back retired hr i, number_back lost hl i, number_back hidden hh i, (said total ∙ ap (λ (rest : List HeldValue). hs ++ rest) last ∙ append-nil hs) i))

-- ---- sizes

-- the retired extents have small numbers, and without a superblock there are none, and no runs
planned : (image : Image) (choice : Choice) (plan : PlanValue) → IsChoice image choice → plan ≡ plan_of choice →
    All IsSmallNumber plan.retired × (plan.has_superblock ≡ false → (plan.retired ≡ []) × (plan.runs ≡ []))
planned image choice plan chosen is = by choice.superblock (superblock_fits chosen) (plan_parts choice plan is).by
  where
    listed : (o : Option (List ℕ)) → IfSome o (AreRetired image.geometry.extents) → All IsSmallNumber (unwrap_or o [])
    listed None h = All-nil IsSmallNumber
    listed (Some es) h =
        All-weaker (λ e. e < image.geometry.extents) IsSmallNumber
        (λ e below. omega (arith, below, image.geometry.extents_most)) es h.below

    by : (c : Option Contents) → IfSome c (AreContents image.geometry) →
        MatchOption c (IsPlanWithout plan choice.geometry) (IsPlanBy plan) →
        All IsSmallNumber plan.retired × (plan.has_superblock ≡ false → (plan.retired ≡ []) × (plan.runs ≡ []))
    by None fits parts = (subst (All IsSmallNumber) (sym parts.retired) (All-nil IsSmallNumber), λ none. (parts.retired, parts.runs))
    by (Some c) fits parts =
        (subst (All IsSmallNumber) (sym parts.retired) (listed c.retired fits.retired), λ none. absurd (false≢true (sym none ∙ parts.has)))

-- no shards have locators, if no run is there
none_named : (read : Runs) (bs : List BindingValue) (cs : List Checked) → length read ≡ 0 → All (IsNewestBinding read) bs → AreAlong bs cs → cs ≡ []
none_named read [] [] none newest same = refl
none_named read [] (c ∷ cs) none newest same = absurd (nil_has_no_first (named_of c) (map named_of cs) (sym same))
none_named [] (b ∷ bs) cs none newest same = absurd (none-some _ (All-head (IsNewestBinding []) b bs newest).entry.is_read)
none_named (r ∷ rs) (b ∷ bs) cs none newest same = absurd (omega (arith, none))

-- ---- the law

module _ (resets : List ℕ) (image : Image) (s : Scrubbed) (x : IsScrubbedBut resets image s) where
  -- Of each locator that a shard names, the extent, the offset and the length are below `2 ^ 64`.
  pub small : All IsSmall (of_shards s.checked)
  small =
      of_each_shard (λ n. HasSmallNumbers n.locator) s.plan.runs s.bindings s.checked x.checked.same
      (All-weaker (λ b. IsEntry (indexed b)) (λ b. All HasSmallNumbers b.locators)
      (λ b is. All-weaker IsLocator HasSmallNumbers (λ l fits. record { extent = omega (arith, fits.extent); offset = omega (arith, fits.offset); length = omega (arith, fits.size) }) b.locators is.2)
      s.bindings (entries_are resets image s x))

  count : length s.read.runs ≡ length s.plan.runs
  count = as_many image s.plan s.read x.read

  lost_few : lost_run_count s ≤ length s.plan.runs
  lost_few = omega (arith, count, count_by-le-length is_none s.read.runs)

  few : hidden_runs s ≤ length s.plan.runs
  few = hidden_few s.plan.runs s.bindings s.checked is_hidden (is_of_read_run s.read.runs) x.checked.same (λ id. refl)

  -- the text says what is found
  said_back : (loose : List Standing) →
      said_by (lines_of (manifest_text s loose)) ≡ (s.plan.has_superblock, s.plan.retired, lost_run_count s, hidden_runs s, all_held s loose)
  said_back loose = by s.plan.has_superblock refl
    where
      cs : List Checked
      cs = of_shards s.checked

      along : AreAlong s.bindings cs
      along =
          subst (AreAlong s.bindings) (sym (shards_part s.plan.runs s.bindings s.checked x.checked.same))
          (along_runs s.plan.runs s.bindings s.checked x.checked.same)

      old : (old : PlanValue) × (old ≡ plan_of s.choice) × (s.plan.retired ≡ old.retired) × (s.plan.runs ≡ old.runs) × (s.plan.has_superblock ≡ old.has_superblock)
      old = plan_before resets s.choice s.plan x.plan

      by : (b : Bool) → s.plan.has_superblock ≡ b →
          said_by (lines_of (text_by (after s.all loose) b s.plan.retired (lost_run_count s) (hidden_runs s) s.bindings cs))
          ≡ (b, s.plan.retired, lost_run_count s, hidden_runs s, all_held s loose)
      by true has =
          said_whole s.plan.retired (lost_run_count s) (hidden_runs s) (length s.bindings) (length cs) (flat_map (λ b. shard_lines (after s.all loose) cs b.id) s.bindings)
          (all_held s loose) (subst (All IsSmallNumber) (sym old.2) (planned image s.choice old.0 x.choice old.1).0)
          (omega (arith, lost_few, runs_few resets image s x)) (omega (arith, few, runs_few resets image s x))
          (λ rest. ap (λ (u : List ℕ). shards_in (u ++ rest)) (sym (lines_are (after s.all loose) s.bindings cs x.bindings.rising along))
          ∙ said_along s.all loose s.bindings cs rest along small)
      by false has =
          let bare = (planned image s.choice old.0 x.choice old.1).1 (sym old.4 ∙ has) in
          let none : length s.plan.runs ≡ 0 = ap (λ (ls : List Locator). length ls) (old.3 ∙ bare.1) in
          let lost : lost_run_count s ≡ 0 = omega (arith, none, lost_few) in
          let hidden : hidden_runs s ≡ 0 = omega (arith, none, few) in
          let shards : cs ≡ [] = none_named s.read.runs s.bindings cs (omega (arith, none, count)) x.bindings.newest along in
          sym (λ i. (false, (old.2 ∙ bare.0) i, lost i, hidden i, map (held s.all loose) (shards i)))

-- Two disks whose manifests have the same text hold the same.
pub same_content : (resets others : List ℕ) (image other : Image) (s t : Scrubbed) (loose more : List Standing) → IsScrubbedBut resets image s →
    IsScrubbedBut others other t → manifest_text s loose ≡ manifest_text t more → HoldTheSame s loose t more
same_content resets others image other s t loose more x y e =
    let said = sym (said_back resets image s x loose) ∙ ap (λ (u : List ℕ). said_by (lines_of u)) e ∙ said_back others other t y more in
    record {
      superblock = ap (λ (v : SaidValue). v.0) said;
      retired = ap (λ (v : SaidValue). v.1) said;
      lost = ap (λ (v : SaidValue). v.2) said;
      hidden = ap (λ (v : SaidValue). v.3) said;
      shards = ap (λ (v : SaidValue). v.4) said;
    }

-- what is held says whether anything is missing
held_sound : (all : List Scanned) (loose : List Standing) (cs : List Checked) →
    list_all (λ (c : Checked). is_sound c.status) cs ≡ list_all (λ (h : HeldValue). is_sound h.status) (map (held_locator all loose) cs)
held_sound all loose cs = sym (list_all-map (λ (h : HeldValue). is_sound h.status) (held_locator all loose) cs)

-- If two disks hold the same, nothing is missing on one exactly if nothing is on the other.
pub same_verdict : (s t : Scrubbed) (loose more : List Standing) → HoldTheSame s loose t more → is_whole s ≡ is_whole t
same_verdict s t loose more h =
    ap (λ (b : Bool). s.plan.has_superblock && lost_run_count s == 0 && hidden_runs s == 0 && b) (held_sound s.all loose (of_shards s.checked))
    ∙ (λ i. h.superblock i && h.lost i == 0 && h.hidden i == 0 && list_all (λ (v : HeldValue). is_sound v.status) (h.shards i))
    ∙ ap (λ (b : Bool). t.plan.has_superblock && lost_run_count t == 0 && hidden_runs t == 0 && b) (sym (held_sound t.all more (of_shards t.checked)))
