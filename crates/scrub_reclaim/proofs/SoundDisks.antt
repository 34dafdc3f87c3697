-- A disk that is sound is clean, nothing is missing of it, no page of extent 0 is lost, damaged or stray, and each doubt is a
-- tail.
use Rattle.std.proofs.Common.{◌≡◌, ◌<◌, ◌+◌, ◌==◌, ◌&&◌, ◌||◌, ◌++◌, ◌∷◌, [], ℕ, suc, Bool, true, false, not, cond, List, Option, Some, None, MatchOption, is_none, is_some, length, get_or, map, nat_lt, arith, refl, sym, ap, ◌∙◌, if◌then◌else◌}
use Rattle.std.proofs.Math.Path.{ap₂}
use Rattle.std.specs.Cmp.Derive.{both_true}
use Rattle.std.specs.List.{AllZip, Contains, cons_option, count_by, enumerate_from, filter, filter_map, flat_map, list_all, list_any, zip}
use Rattle.std.specs.Option.{option_map, option_to_list}
use Rattle.std.proofs.lemmas.Bool.{and_parts, eq-eqb, eqb-true, false≢true, or_parts, or_right}
use Rattle.std.proofs.lemmas.List.Folds.{list_all-append}
use Rattle.std.proofs.lemmas.List.Sums.{AllPass-from_list_all, sum_by-cons}
use Rattle.std.proofs.lemmas.Option.{slice_get-get_or, slice_get_within}
use Rattle.std.specs.List.{slice_get}
use Rattle.list_facts.proofs.Bools.{false_from_not}
use Rattle.list_facts.proofs.Filters.{Contains-filter_range}
use Rattle.scrub_disk.specs.Image.{Image, unreadable_pages}
use Rattle.scrub_frame.specs.declared.locator.Locator.{Locator}
use Rattle.scrub_super.specs.Chosen.{Choice}
use Rattle.scrub_super.specs.Contents.{Contents}
use Rattle.scrub_super.specs.Pages.{AreHeldBytes, AreSuperblockPages, is_odd}
use Rattle.scrub_super.specs.Plan.{PlanValue}
use Rattle.scrub_super.specs.steps.PlanParts.{IsPlanBy, IsPlanWithout}
use Rattle.scrub_super.proofs.PlanParts.{plan_parts}
use Rattle.scrub_super.specs.declared.pages.SuperblockPage.{SuperblockPage}
use Rattle.scrub_super.specs.declared.pages.SuperblockPage.TheVariants.{Lost, Record, Damaged, Stray, Held}
use Rattle.scrub_scan.specs.Scanned.{Scanned}
use Rattle.scrub_merge.specs.Binding.{Runs}
use Rattle.scrub_run.specs.Entry.{EntryValue}
use Rattle.scrub_check.specs.declared.runs.RunState.{RunState}
use Rattle.scrub_check.specs.declared.runs.RunState.TheVariants.{Read, BadChunk, NotARun}
use Rattle.scrub_check.specs.declared.statuses.checked.Checked.{Checked}
use Rattle.scrub_check.specs.declared.statuses.status.Status.{Status}
use Rattle.scrub_check.specs.Checked.{is_dangling, is_hidden, is_sound}
use Rattle.scrub_check.specs.Runs.{HasRunIn}
use Rattle.scrub_check.proofs.RunStates.{Sound_from_is_sound}
use Rattle.scrub_check.specs.Candidates.{CandidateValue}
use Rattle.scrub_check.specs.Spares.{copies_of, is_copy_of, spares_of}
use Rattle.scrub_loose.specs.Loose.{LooseValue, is_gone}
use Rattle.scrub_scan.specs.declared.standing.Standing.{Standing}
use Rattle.scrub_found.specs.Scrubbed.{IsScrubbed, Scrubbed, is_clean_disk, is_clean_extent, is_clean_item}
use Rattle.scrub_found.proofs.OneScrub.{one_scrub}
use Rattle.scrub_report.specs.Answer.{AnswerValue, IsScrubAnswer}
use Rattle.scrub_listings.specs.Manifest.{IsManifest, hidden_runs, is_of_read_run, is_of_shard, is_whole, lost_run_count}
use Rattle.scrub_listings.specs.Summary.{IsSummary, counts_as, is_behind, is_sound_verdict, one_if, verdict, verdict_by}
use Rattle.scrub_reclaim.specs.declared.doubts.Doubt.{Doubt}
use Rattle.scrub_reclaim.specs.declared.doubts.Doubt.TheVariants.{Last, NoSuperblock, Tail, Tie}
use Rattle.scrub_reclaim.specs.Doubts.{Acceptance, choice_doubts, crowded_doubt, crowded_doubts, doubts, ends_past, first_doubt, is_accepted, is_last, is_named, last_doubt, last_doubts, loose_doubt, loose_doubts_of, outside, page_ranges, range_doubts, run_lost, spare_doubt, spare_doubts_of, safe_spares, superblock_damaged, superblock_lost, superblock_stray, tail_doubts, tail_lost_doubts}
use Rattle.scrub_reclaim.specs.AllRight.{IsAllRight, is_quiet, is_tail}
use Rattle.scrub_reclaim.specs.Reclaimable.{AreReclaimLines, accepted_in, doubts_for, is_clear}
use Rattle.scrub_super.proofs.PageLaws.{held_unless_odd, one_list_of_pages}

-- ---- lists whose elements pass

-- a test that is weaker passes too
pub all_weaker : {X : Type 0} (p q : X → Bool) (xs : List X) → ((x : X) → p x ≡ true → q x ≡ true) → list_all p xs ≡ true → list_all q xs ≡ true
all_weaker p q [] weaker all = refl
all_weaker p q (x ∷ xs) weaker all =
    let parts = and_parts (p x) (list_all p xs) all in
    both_true (weaker x parts.0) (all_weaker p q xs weaker parts.1)

-- those that are kept pass
all_kept : {X : Type 0} (p q : X → Bool) (xs : List X) → list_all p xs ≡ true → list_all p (filter q xs) ≡ true
all_kept p q [] all = refl
all_kept p q (x ∷ xs) all =
    let parts = and_parts (p x) (list_all p xs) all in
    by (q x) parts.0 (all_kept p q xs parts.1)
  where
    by : (b : Bool) → p x ≡ true → list_all p (filter q xs) ≡ true → list_all p (cond b (x ∷ filter q xs) (filter q xs)) ≡ true
    by true here later = both_true here later
    by false here later = later

-- none is counted of those that don't pass
none_counted : {X : Type 0} (p : X → Bool) (xs : List X) → list_all (λ x. not (p x)) xs ≡ true → count_by p xs ≡ 0
none_counted p [] all = refl
none_counted p (x ∷ xs) all =
    let parts = and_parts (not (p x)) (list_all (λ y. not (p y)) xs) all in
    let sum : count_by p (x ∷ xs) ≡ one_if (p x) + count_by p xs = sum_by-cons (λ y. one_if (p y)) x xs in
    let here : one_if (p x) ≡ 0 = ap one_if (false_from_not (p x) parts.0) in
    let later : count_by p xs ≡ 0 = none_counted p xs parts.1 in
    omega (arith, sum, here, later)

-- nothing comes of those of which nothing comes
flat_map_of_none : {X A : Type 0} (f : X → List A) (p : X → Bool) (xs : List X) → ((x : X) → p x ≡ true → f x ≡ []) → list_all p xs ≡ true → flat_map f xs ≡ []
flat_map_of_none f p [] none all = refl
flat_map_of_none {X} {A} f p (x ∷ xs) none all =
    let parts = and_parts (p x) (list_all p xs) all in
    (λ i. none x parts.0 i ++ flat_map_of_none f p xs none parts.1 i)

-- ---- index runs

read_has : (r : Option (List EntryValue)) → is_some r ≡ true → not (is_none r) ≡ true
read_has None e = e
read_has (Some es) e = refl

module _ (image : Image) (plan : PlanValue) where
  -- a run that has entries was read
  is_read : (l : Locator) (run : Option (List EntryValue)) (state : RunState) → is_some run ≡ true → HasRunIn image plan l run state →
      state ≡ Read
  is_read l None state some h = absurd (false≢true some)
  is_read l (Some es) Read some h = refl
  is_read l (Some es) (BadChunk status) some h = absurd h
  is_read l (Some es) NotARun some h = absurd h

  -- so there is no doubt of a run
  no_run_doubts : (ls : List Locator) (runs : Runs) (states : List RunState) (k : ℕ) → length states ≡ length runs →
      AllZip (λ l p. HasRunIn image plan l p.0 p.1) ls (zip runs states) → list_all is_some runs ≡ true →
      filter_map (λ s. run_lost s.0 s.1) (enumerate_from k states) ≡ []
  no_run_doubts ls [] [] k same each all = refl
  no_run_doubts ls [] (s ∷ ss) k same each all = absurd (omega (arith, same))
  no_run_doubts ls (r ∷ rs) [] k same each all = absurd (omega (arith, same))
  no_run_doubts [] (r ∷ rs) (s ∷ ss) k same each all = absurd each
  no_run_doubts (l ∷ ls) (r ∷ rs) (s ∷ ss) k same each all =
      let parts = and_parts (is_some r) (list_all is_some rs) all in
      ap (λ (t : RunState). cons_option (run_lost k t) (filter_map (λ (u : ℕ × RunState). run_lost u.0 u.1) (enumerate_from (k + 1) ss)))
      (is_read l r s parts.0 each.0)
      ∙ no_run_doubts ls rs ss (k + 1) (omega (arith, same)) each.1 parts.1

-- ---- named locators

not_hidden : (s : Status) (b : Bool) → is_sound s ≡ true → not (is_hidden s && b) ≡ true
not_hidden s b e = ap (λ (t : Status). not (is_hidden t && b)) (Sound_from_is_sound s e)

-- a sound locator asks for no spare
no_spare_doubt : (all : List Scanned) (checked : List Checked) (extents : List ℕ) (c : Checked) → is_sound c.status ≡ true →
    spare_doubts_of all checked extents c ≡ []
no_spare_doubt all checked extents c e =
    let none : spares_of all c ≡ [] = ap
    (λ (t : Status). if is_dangling t && nat_lt 0 c.locator.length then copies_of all c.locator else [])
    (Sound_from_is_sound c.status e) in
    ap (λ (ss : List Standing). first_doubt (spare_doubt c.owner) ss (safe_spares checked extents ss)) none

-- nor is its payload gone
not_gone : (all : List Scanned) (c : Checked) → is_sound c.status ≡ true → is_gone all c ≡ false
not_gone all c e =
    ap (λ (t : Status). (is_dangling t && nat_lt 0 c.locator.length) && (length (spares_of all c) == 0)) (Sound_from_is_sound c.status e)

-- so there are no loose copies of it
no_loose_doubt : (all : List Scanned) (frames : List Standing) (extents : List ℕ) (c : Checked) → is_sound c.status ≡ true →
    loose_doubts_of all frames extents c ≡ []
no_loose_doubt all frames extents c e =
    ap (λ (ss : List Standing). first_doubt (loose_doubt c.owner) ss (outside extents ss))
    (ap (λ (b : Bool). if b then filter (is_copy_of c.locator) frames else []) (not_gone all c e))

-- and nothing is said of crowded extents
no_crowded_doubts : (all : List Scanned) (crowded : List ℕ) (checked : List Checked) (candidates : List CandidateValue) →
    list_all (λ c. is_sound c.status) checked ≡ true → crowded_doubts all crowded checked candidates ≡ []
no_crowded_doubts all crowded checked candidates sound =
    ap (λ (b : Bool). flat_map (crowded_doubt (map (λ a. a.extent) candidates)) (if b then crowded else [])) (none_gone checked sound)
  where
    none_gone : (cs : List Checked) → list_all (λ c. is_sound c.status) cs ≡ true → list_any (is_gone all) cs ≡ false
    none_gone [] e = refl
    none_gone (c ∷ cs) e =
        let parts = and_parts (is_sound c.status) (list_all (λ c. is_sound c.status) cs) e in
        ap₂ (λ (a b : Bool). a || b) (not_gone all c parts.0) (none_gone cs parts.1)

-- ---- the last superblock

-- there is no doubt of it if it counts
no_last : (choice : Choice) (last : Option ℕ) → is_behind last choice ≡ false → last_doubts choice last ≡ []
no_last choice None e = refl
no_last choice (Some g) e = by (counts_as choice g) refl
  where
    by : (b : Bool) → counts_as choice g ≡ b → last_doubt choice g ≡ []
    by true is = ap (λ (t : Bool). if t then [] else Last (option_map (λ (c : Contents). c.generation) choice.superblock) g ∷ []) is
    by false is = absurd (false≢true (sym e ∙ ap not is))

-- it is known, then
known_last : (choice : Choice) (g : ℕ) → is_behind (Some g) choice ≡ false → is_last (Some g) choice ≡ true
known_last choice g e = by (counts_as choice g) refl
  where
    by : (b : Bool) → counts_as choice g ≡ b → counts_as choice g ≡ true
    by true is = is
    by false is = absurd (false≢true (sym e ∙ ap not is))

-- ---- pages of extent 0

quiet_one : (p : SuperblockPage) → ¬ (p ≡ Lost) → is_odd p ≡ false → is_quiet p ≡ true
quiet_one Lost n e = absurd (n refl)
quiet_one (Record kind generation to rank stray) n e = ap not e
quiet_one (Damaged kind) n e = absurd (false≢true (sym e))
quiet_one Stray n e = absurd (false≢true (sym e))
quiet_one Held n e = refl

quiet_pages : (pages : List SuperblockPage) → ((q : ℕ) → ¬ (slice_get pages q ≡ Some Lost)) → list_any is_odd pages ≡ false →
    list_all is_quiet pages ≡ true
quiet_pages [] none e = refl
quiet_pages (p ∷ ps) none e =
    let parts = or_parts (is_odd p) (list_any is_odd ps) e in
    both_true (quiet_one p (λ is. none 0 (ap (λ (t : SuperblockPage). Some t) is)) parts.0) (quiet_pages ps (λ q. none (suc q)) parts.1)

-- there is no lost page if no page is unreadable
none_lost : (image : Image) (pages : List SuperblockPage) → AreSuperblockPages image pages →
    length (unreadable_pages image 0) ≡ 0 → (q : ℕ) → ¬ (slice_get pages q ≡ Some Lost)
none_lost image pages held none q is =
    let below : q < length pages = slice_get_within pages q Lost is in
    let within : q < image.geometry.pages = omega (arith, below, held.count) in
    let lost : image.page 0 q ≡ None = held.each q Lost is in
    let there : Contains (unreadable_pages image 0) q =
    Contains-filter_range (λ r. is_none (image.page 0 r)) 0 image.geometry.pages q (omega arith) (omega (arith, within)) (ap (λ o. is_none o) lost) in
    omega (arith, there.1, none)

-- quiet pages make no doubt
no_page_doubt : (f : ℕ → SuperblockPage → Option Doubt) (pages : List SuperblockPage) (k : ℕ) →
    ((q : ℕ) (p : SuperblockPage) → is_quiet p ≡ true → f q p ≡ None) → list_all is_quiet pages ≡ true →
    filter_map (λ x. f x.0 x.1) (enumerate_from k pages) ≡ []
no_page_doubt f [] k none all = refl
no_page_doubt f (p ∷ ps) k none all =
    let parts = and_parts (is_quiet p) (list_all is_quiet ps) all in
    ap (λ (o : Option Doubt). cons_option o (filter_map (λ (x : ℕ × SuperblockPage). f x.0 x.1) (enumerate_from (k + 1) ps))) (none k p parts.0)
    ∙ no_page_doubt f ps (k + 1) none parts.1

no_lost : (q : ℕ) (p : SuperblockPage) → is_quiet p ≡ true → superblock_lost q p ≡ None
no_lost q Lost e = absurd (false≢true e)
no_lost q _ e = refl

no_damaged : (q : ℕ) (p : SuperblockPage) → is_quiet p ≡ true → superblock_damaged q p ≡ None
no_damaged q (Damaged kind) e = absurd (false≢true e)
no_damaged q _ e = refl

no_stray : (q : ℕ) (p : SuperblockPage) → is_quiet p ≡ true → superblock_stray q p ≡ None
no_stray q Lost e = refl
no_stray q (Record kind generation to rank true) e = absurd (false≢true e)
no_stray q (Record kind generation to rank false) e = refl
no_stray q (Damaged kind) e = refl
no_stray q Stray e = absurd (false≢true e)
no_stray q Held e = refl

-- a quiet page is not odd
even_if_quiet : (p : SuperblockPage) → is_quiet p ≡ true → is_odd p ≡ false
even_if_quiet Lost e = refl
even_if_quiet (Record kind generation to rank true) e = absurd (false≢true e)
even_if_quiet (Record kind generation to rank false) e = refl
even_if_quiet (Damaged kind) e = absurd (false≢true e)
even_if_quiet Stray e = absurd (false≢true e)
even_if_quiet Held e = refl

-- ---- tails

tail_only : (f : Scanned) → list_all is_tail (tail_doubts f) ≡ true
tail_only f = by f.findings.tail_first
  where
    by : (o : Option ℕ) → list_all is_tail (option_to_list (option_map (λ first. Tail f.extent first f.findings.tail_count) o)) ≡ true
    by None = refl
    by (Some first) = refl

tails_only : (all : List Scanned) → list_all is_tail (flat_map tail_doubts all) ≡ true
tails_only [] = refl
tails_only (f ∷ fs) = list_all-append is_tail (tail_doubts f) (flat_map tail_doubts fs) ∙ both_true (tail_only f) (tails_only fs)

no_tail_lost : (page : ℕ) (f : Scanned) → is_clean_extent f ≡ true → tail_lost_doubts page f ≡ []
no_tail_lost page f e = by f.findings.bad_pages (and_parts (length f.findings.bad_pages == 0) (list_all is_clean_item f.findings.items) e).0
  where
    by : (qs : List ℕ) → (length qs == 0) ≡ true → range_doubts f.extent (page_ranges (filter (ends_past page f.pointer) qs)) ≡ []
    by [] none = refl
    by (q ∷ qs) none = let zero_of : length (q ∷ qs) ≡ 0 = eqb-true (length (q ∷ qs)) 0 none in absurd (omega (arith, zero_of))

-- ---- all of it

clean_parts : (a b c d e f g : Bool) → (a && b && c && d && e && f && g) ≡ true →
    (a ≡ true) × (b ≡ true) × (c ≡ true) × (d ≡ true) × (e ≡ true) × (f ≡ true)
clean_parts true true true true true true g all = (refl, refl, refl, refl, refl, refl)
clean_parts true true true true true false g all = absurd (false≢true all)
clean_parts true true true true false f g all = absurd (false≢true all)
clean_parts true true true false e f g all = absurd (false≢true all)
clean_parts true true false d e f g all = absurd (false≢true all)
clean_parts true false c d e f g all = absurd (false≢true all)
clean_parts false b c d e f g all = absurd (false≢true all)

module _ (image : Image) (pages : List SuperblockPage) (found : Scrubbed) (x : IsScrubbed image found)
    (held : AreSuperblockPages image pages) (clean : is_clean_disk found ≡ true) (even : list_any is_odd pages ≡ false) (last : Option ℕ)
    (counts : is_behind last found.choice ≡ false) where
  parts : (is_some found.choice.superblock ≡ true) × (not found.choice.tie ≡ true) × ((length found.choice.bad_pages == 0) ≡ true)
      × (list_all is_clean_extent found.all ≡ true) × (list_all is_some found.read.runs ≡ true)
      × (list_all (λ c. is_sound c.status) found.checked ≡ true)
  parts =
      clean_parts (is_some found.choice.superblock) (not found.choice.tie) (length found.choice.bad_pages == 0)
      (list_all is_clean_extent found.all) (list_all is_some found.read.runs) (list_all (λ c. is_sound c.status) found.checked)
      (length found.shared == 0) clean

  has : is_some found.choice.superblock ≡ true
  has = parts.0

  no_tie : found.choice.tie ≡ false
  no_tie = false_from_not found.choice.tie parts.1

  no_bad : length (unreadable_pages image 0) ≡ 0
  no_bad =
      sym (ap (λ (qs : List ℕ). length qs) x.choice.bad_pages)
      ∙ eqb-true (length found.choice.bad_pages) 0 parts.2

  extents_are : list_all is_clean_extent found.all ≡ true
  extents_are = parts.3

  runs_are : list_all is_some found.read.runs ≡ true
  runs_are = parts.4

  sound_are : list_all (λ c. is_sound c.status) found.checked ≡ true
  sound_are = parts.5

  planned : found.plan.has_superblock ≡ true
  planned = by found.choice.superblock has (plan_parts found.choice found.plan x.plan).by
    where
      by : (o : Option Contents) → is_some o ≡ true → MatchOption o (IsPlanWithout found.plan found.choice.geometry) (IsPlanBy found.plan) →
          found.plan.has_superblock ≡ true
      by None e p = absurd (false≢true e)
      by (Some c) e p = p.has

  none_lost_runs : (lost_run_count found == 0) ≡ true
  none_lost_runs = eq-eqb (lost_run_count found) 0 (none_counted is_none found.read.runs (all_weaker is_some (λ r. not (is_none r)) found.read.runs read_has runs_are))

  none_hidden_runs : (hidden_runs found == 0) ≡ true
  none_hidden_runs =
      eq-eqb (hidden_runs found) 0
      (none_counted (λ (c : Checked). is_hidden c.status && is_of_read_run found.read.runs c.owner) found.checked
      (all_weaker (λ (c : Checked). is_sound c.status) (λ (c : Checked). not (is_hidden c.status && is_of_read_run found.read.runs c.owner)) found.checked
      (λ c. not_hidden c.status (is_of_read_run found.read.runs c.owner)) sound_are))

  whole : is_whole found ≡ true
  whole =
      both_true (both_true (both_true planned none_lost_runs) none_hidden_runs)
      (all_kept (λ (c : Checked). is_sound c.status) (λ (c : Checked). is_of_shard c.owner) found.checked sound_are)

  quiet : list_all is_quiet pages ≡ true
  quiet = quiet_pages pages (none_lost image pages held no_bad) even

  no_choice_doubt : choice_doubts found.choice ≡ []
  no_choice_doubt = by found.choice.superblock has
    where
      by : (o : Option Contents) → is_some o ≡ true →
          (if is_none o then NoSuperblock ∷ [] else []) ++ (if found.choice.tie then Tie ∷ [] else []) ≡ []
      by None e = absurd (false≢true e)
      by (Some c) e = ap (λ (b : Bool). let none : List Doubt = [] in none ++ (if b then Tie ∷ [] else [])) no_tie

  tails : (loose : LooseValue) → list_all is_tail (doubts last pages loose found) ≡ true
  tails loose =
      let parts : doubts last pages loose found ≡ [] ++ [] ++ [] ++ [] ++ [] ++ [] ++ [] ++ [] ++ [] ++ flat_map tail_doubts found.all ++ [] =
      (λ i. no_choice_doubt i
      ++ no_last found.choice last counts i
      ++ no_page_doubt superblock_lost pages 0 no_lost quiet i
      ++ no_page_doubt superblock_damaged pages 0 no_damaged quiet i
      ++ no_page_doubt superblock_stray pages 0 no_stray quiet i
      ++ no_run_doubts image found.plan found.plan.runs found.read.runs found.read.states 0 x.read.same x.read.each runs_are i
      ++ flat_map_of_none (spare_doubts_of found.all found.checked (map (λ (a : CandidateValue). a.extent) found.candidates)) (λ (c : Checked). is_sound c.status) found.checked
      (no_spare_doubt found.all found.checked (map (λ (a : CandidateValue). a.extent) found.candidates)) sound_are i
      ++ flat_map_of_none (loose_doubts_of found.all loose.frames (map (λ (a : CandidateValue). a.extent) found.candidates)) (λ (c : Checked). is_sound c.status) found.checked
      (no_loose_doubt found.all loose.frames (map (λ (a : CandidateValue). a.extent) found.candidates)) sound_are i
      ++ no_crowded_doubts found.all loose.crowded found.checked found.candidates sound_are i
      ++ flat_map tail_doubts found.all
      ++ flat_map_of_none (tail_lost_doubts found.plan.geometry.page) is_clean_extent found.all (no_tail_lost found.plan.geometry.page) extents_are i) in
      ap (list_all is_tail) parts
      ∙ list_all-append is_tail (flat_map tail_doubts found.all) []
      ∙ both_true (tails_only found.all) refl

  all_right : (loose : LooseValue) → IsAllRight last pages loose found
  all_right loose = record { clean = clean; whole = whole; quiet = quiet; tails = tails loose }

-- If the verdict is sound, what is found is clean, whole and quiet, and each doubt is a tail.
pub sound_is_right : (last : Option ℕ) (image : Image) (pages : List SuperblockPage) (loose : LooseValue) (found : Scrubbed) →
    IsScrubbed image found → AreSuperblockPages image pages → is_sound_verdict (verdict last found pages) ≡ true →
    IsAllRight last pages loose found
sound_is_right last image pages loose found x held is =
    by (is_clean_disk found) (list_any is_odd pages || is_behind last found.choice) refl refl is
  where
    by : (clean doubt : Bool) → is_clean_disk found ≡ clean → (list_any is_odd pages || is_behind last found.choice) ≡ doubt →
        is_sound_verdict (verdict_by clean doubt) ≡ true → IsAllRight last pages loose found
    by true true c o e = absurd (false≢true e)
    by true false c o e =
        let parts = or_parts (list_any is_odd pages) (is_behind last found.choice) o in
        all_right image pages found x held c parts.0 last parts.1 loose
    by false doubt c o e = absurd (false≢true e)

-- ---- what the commands say of it

-- some loose frames
none_at_all : LooseValue
none_at_all = record { frames = []; crowded = [] }

module _ (last : Option ℕ) (image : Image) (summary : List ℕ) (x : IsSummary last image summary true) where
  right : (loose : LooseValue) → IsAllRight last x.pages loose x.found
  right loose = sound_is_right last image x.pages loose x.found x.scrubbed x.held (sym x.verdict_is)

  -- If the summary says that the disk is sound, the report says that it is clean.
  pub sound_is_clean : (answer : AnswerValue) → IsScrubAnswer image answer → answer.is_clean ≡ true
  sound_is_clean answer a = a.clean ∙ ap is_clean_disk (one_scrub image a.found x.found a.scrubbed x.scrubbed) ∙ (right none_at_all).clean

  -- If the summary says that the disk is sound, nothing is missing of its manifest.
  pub sound_is_whole : (text : List ℕ) (whole : Bool) → IsManifest image text whole → whole ≡ true
  sound_is_whole text whole m = m.verdict ∙ ap is_whole (one_scrub image m.found x.found m.scrubbed x.scrubbed) ∙ (right none_at_all).whole

-- If the summary says that the disk is sound, records hold each nonzero readable byte of extent 0.
pub sound_is_held : (last : Option ℕ) (image : Image) (summary : List ℕ) (q : ℕ) (bytes : List ℕ) → IsSummary last image summary true →
    q < image.geometry.pages → image.page 0 q ≡ Some bytes → AreHeldBytes image q bytes
sound_is_held last image summary q bytes x here readable =
    let page : SuperblockPage = get_or x.pages q Lost in
    let within : q < length x.pages = omega (arith, here, x.held.count) in
    let even : is_odd page ≡ false = even_if_quiet page (AllPass-from_list_all is_quiet x.pages (right last image summary x none_at_all).quiet q Lost within) in
    held_unless_odd image q page bytes (x.held.each q page (slice_get-get_or x.pages q Lost within)) even readable

-- a verdict that is sound is no other
sound_alone_is : (clean doubt : Bool) → is_sound_verdict (verdict_by clean doubt) ≡ true → doubt ≡ false
sound_alone_is true true e = absurd (false≢true e)
sound_alone_is true false e = refl
sound_alone_is false doubt e = absurd (false≢true e)

-- If the summary by `last` says that the disk is sound, each doubt is accepted by the same `last`.
pub sound_is_clear : (last : ℕ) (image : Image) (summary : List ℕ) (accepted : Acceptance) (text : List ℕ) (clear : Bool) →
    IsSummary (Some last) image summary true → accepted.last ≡ Some last → AreReclaimLines image accepted text clear → clear ≡ true
sound_is_clear last image summary accepted text clear x given c =
    c.verdict
    ∙ (λ i. is_clear accepted (one_list_of_pages image c.pages x.pages c.held x.held i) c.loose (one_scrub image c.found x.found c.scrubbed x.scrubbed i))
    ∙ ap (λ (ds : List Doubt). list_all (is_accepted (accepted_in accepted x.found)) ds) are
    ∙ all_weaker is_tail (is_accepted (accepted_in accepted x.found)) (doubts (Some last) x.pages c.loose x.found) tail_accepted (right (Some last) image summary x c.loose).tails
  where
    are : doubts_for accepted x.pages c.loose x.found ≡ doubts (Some last) x.pages c.loose x.found
    are = ap (λ (o : Option ℕ). doubts o x.pages c.loose x.found) given

    known : is_last accepted.last x.found.choice ≡ true
    known =
        ap (λ (o : Option ℕ). is_last o x.found.choice) given
        ∙ known_last x.found.choice last
        (or_parts (list_any is_odd x.pages) (is_behind (Some last) x.found.choice)
        (sound_alone_is (is_clean_disk x.found) (list_any is_odd x.pages || is_behind (Some last) x.found.choice) (sym x.verdict_is))).1

    tail_accepted : (d : Doubt) → is_tail d ≡ true → is_accepted (accepted_in accepted x.found) d ≡ true
    tail_accepted (Tail extent first count) e =
        or_right (is_named accepted.lines (Tail extent first count)) (is_last accepted.last x.found.choice && true)
        (both_true known refl)
    tail_accepted _ e = absurd (false≢true e)
