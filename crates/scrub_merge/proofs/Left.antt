-- What is left of runs ahead of their cursors, and what it binds: nothing if all is passed, else one identifier more once
-- every cursor at the least identifier moved on.
use Rattle.std.proofs.Common.{◌≡◌, ◌+◌, ◌<◌, ◌≤◌, ◌↔◌, ℕ, zero, suc, Bool, true, false, cond, Option, Some, None, List, [], ◌∷◌, length, drop, map, get_or, Contains, arith, refl, ◌∙◌, ap}
use Rattle.std.specs.Prelude.{slice_get, unwrap_or, replicate}
use Rattle.std.specs.Option.{option_map}
use Rattle.std.specs.Ordering.{is_eq}
use Rattle.std.proofs.Math.Numerals.{add-one}
use Rattle.std.proofs.lemmas.Option.{same_Some}
use Rattle.scrub_run.specs.declared.shard_id.ShardId.{ShardId}
use Rattle.scrub_run.specs.Entry.{EntryValue}
use Rattle.scrub_run.specs.Run.{RisesById}
use Rattle.scrub_merge.specs.Binding.{Runs, IsEntryOf}
use Rattle.scrub_merge.specs.steps.Cursors.{LostBefore, id_cmp, entry_at, has_id, ahead, place_past, places_past, first_of, AreRising}
use Rattle.scrub_merge.proofs.Identifiers.{itself}

-- ---- what is left ahead of cursors

slice_get_drop : (place : ℕ) (entries : List EntryValue) → slice_get (drop place entries) 0 ≡ slice_get entries place
slice_get_drop zero entries = refl
slice_get_drop (suc place) [] = refl
slice_get_drop (suc place) (e ∷ entries) = slice_get_drop place entries

-- the first entry of what is left is under the cursor
pub under_first : (run : Option (List EntryValue)) (place : ℕ) →
    entry_at (option_map (drop place) run) 0 ≡ entry_at run place
under_first None place = refl
under_first (Some entries) place = slice_get_drop place entries

-- what is left of a run begins under its cursor
pub first_left : (runs : Runs) (places : List ℕ) (k : ℕ) → length places ≡ length runs →
    first_of (ahead runs places) k ≡ entry_at (unwrap_or (slice_get runs k) None) (get_or places k 0)
first_left [] places k h = refl
first_left (run ∷ runs) [] k h = absurd (omega (arith, h))
first_left (run ∷ runs) (place ∷ places) zero h = under_first run place
first_left (run ∷ runs) (place ∷ places) (suc k) h = first_left runs places k (omega (arith, h))

-- as many runs are left
pub length-left : (runs : Runs) (places : List ℕ) → length (ahead runs places) ≡ length runs
length-left [] places = refl
length-left (run ∷ runs) [] = ap suc (length-left runs [])
length-left (run ∷ runs) (place ∷ places) = ap suc (length-left runs places)

-- a run with a first entry is one of them
pub first_within : (runs : Runs) (k : ℕ) (e : EntryValue) → first_of runs k ≡ Some e → k < length runs
first_within [] k e h = cc
first_within (run ∷ runs) zero e h = omega arith
first_within (run ∷ runs) (suc k) e h = omega (arith, first_within runs k e h)

-- the first entry of the run with this number
pub first_at : (runs : Runs) (number : ℕ) (run : Option (List EntryValue)) → number < length runs →
    run ≡ get_or runs number run → first_of runs number ≡ entry_at run 0
first_at [] number run here is = absurd (omega (arith, here))
first_at (r ∷ runs) zero run here is = rw is
first_at (r ∷ runs) (suc number) run here is = first_at runs number run (omega (arith, here)) is

-- the first entry of a run is its first
pub first_is : (runs : Runs) (k : ℕ) (entries : List EntryValue) → slice_get runs k ≡ Some (Some entries) →
    first_of runs k ≡ slice_get entries 0
first_is [] k entries h = cc
first_is (run ∷ runs) zero entries h = rw (same_Some run (Some entries) h)
first_is (run ∷ runs) (suc k) entries h = first_is runs k entries h

pub first_among : (entries : List EntryValue) (e : EntryValue) → slice_get entries 0 ≡ Some e → Contains entries e
first_among [] e h = cc
first_among (x ∷ entries) e h = (zero, omega arith, cc)

-- the first entry of a run is an entry of it
pub first_entry : (runs : Runs) (k : ℕ) (e : EntryValue) → first_of runs k ≡ Some e → IsEntryOf runs k e
first_entry [] k e h = cc
first_entry (None ∷ runs) zero e h = cc
first_entry (Some entries ∷ runs) zero e h = record {
  entries = entries;
  is_read = refl;
  among = first_among entries e h;
}
first_entry (run ∷ runs) (suc k) e h =
    let later = first_entry runs k e h in
    record { entries = later.entries; is_read = later.is_read; among = later.among }

drop_rises : (place : ℕ) (entries : List EntryValue) → RisesById entries → RisesById (drop place entries)
drop_rises zero entries h = h
drop_rises (suc place) [] h = h
drop_rises (suc place) (e ∷ entries) h =
    drop_rises place entries (λ i j d order here. h (suc i) (suc j) d (omega (arith, order)) (omega (arith, here)))

-- what is left of rising runs rises
pub rising_left : (runs : Runs) (places : List ℕ) → AreRising runs → AreRising (ahead runs places)
rising_left [] places h k entries is = cc
rising_left (run ∷ runs) [] h zero entries is = h zero entries is
rising_left (run ∷ runs) [] h (suc k) entries is = rising_left runs [] (λ j. h (suc j)) k entries is
rising_left (None ∷ runs) (place ∷ places) h zero entries is = cc
rising_left (Some all ∷ runs) (place ∷ places) h zero entries is =
    let same : drop place all ≡ entries = cc in
    rw (← same) (drop_rises place all (h zero all refl))
rising_left (run ∷ runs) (place ∷ places) h (suc k) entries is = rising_left runs places (λ j. h (suc j)) k entries is

-- the same runs are lost
lost_at : (runs : Runs) (places : List ℕ) (k : ℕ) →
    (slice_get (ahead runs places) k ≡ Some None) ↔ (slice_get runs k ≡ Some None)
lost_at [] places k = (λ h. h, λ h. h)
lost_at (run ∷ runs) [] zero = (λ h. h, λ h. h)
lost_at (run ∷ runs) [] (suc k) = lost_at runs [] k
lost_at (None ∷ runs) (place ∷ places) zero = (λ h. refl, λ h. refl)
lost_at (Some entries ∷ runs) (place ∷ places) zero = (λ h. cc, λ h. cc)
lost_at (run ∷ runs) (place ∷ places) (suc k) = lost_at runs places k

-- the same runs are lost before each
pub lost_left : (runs : Runs) (places : List ℕ) (n : ℕ) → LostBefore (ahead runs places) n ↔ LostBefore runs n
lost_left runs places n =
    (λ l. (l.0, l.1, (lost_at runs places l.0).0 l.2), λ l. (l.0, l.1, (lost_at runs places l.0).1 l.2))

-- at the start that is all
pub left_all : (runs : Runs) (n : ℕ) → ahead runs (replicate n 0) ≡ runs
left_all [] n = refl
left_all (run ∷ runs) zero = λ i. run ∷ left_all runs zero i
left_all (run ∷ runs) (suc n) = λ i. whole run i ∷ left_all runs n i
  where
    whole : (r : Option (List EntryValue)) → option_map (drop 0) r ≡ r
    whole None = refl
    whole (Some entries) = refl

-- ---- cursors that move on

-- a run without its first entry, if that has an identifier
abbrev pub without : ShardId → List EntryValue → List EntryValue
without id [] = []
without id (e ∷ entries) = cond (is_eq (id_cmp e.id id)) entries (e ∷ entries)

-- all runs without their first entries of an identifier
abbrev pub all_without : ShardId → Runs → Runs
all_without id runs = map (option_map (without id)) runs

drop_behind : (id : ShardId) (entries : List EntryValue) (place : ℕ) →
    drop (place_past id (Some entries) place) entries ≡ without id (drop place entries)
drop_behind id [] zero = refl
drop_behind id [] (suc place) = refl
drop_behind id (e ∷ entries) zero = by (is_eq (id_cmp e.id id))
  where
    by : (t : Bool) → drop (cond t (0 + 1) 0) (e ∷ entries) ≡ cond t entries (e ∷ entries)
    by true = refl
    by false = refl
drop_behind id (e ∷ entries) (suc place) = by (has_id id (slice_get entries place)) ∙ drop_behind id entries place
  where
    by : (t : Bool) → drop (cond t (suc place + 1) (suc place)) (e ∷ entries) ≡ drop (cond t (place + 1) place) entries
    by true = rw (add-one, add-one)
    by false = refl

-- what is left behind cursors that moved past an identifier
pub left_behind : (id : ShardId) (runs : Runs) (places : List ℕ) → length places ≡ length runs →
    ahead runs (places_past id runs places) ≡ all_without id (ahead runs places)
left_behind id [] places h = refl
left_behind id (run ∷ runs) [] h = absurd (omega (arith, h))
left_behind id (run ∷ runs) (place ∷ places) h = λ i. one run i ∷ left_behind id runs places (omega (arith, h)) i
  where
    one : (r : Option (List EntryValue)) →
        option_map (drop (place_past id r place)) r ≡ option_map (without id) (option_map (drop place) r)
    one None = refl
    one (Some entries) = ap Some (drop_behind id entries place)

-- there are as many cursors
pub length-behind : (id : ShardId) (runs : Runs) (places : List ℕ) → length (places_past id runs places) ≡ length places
length-behind id [] places = refl
length-behind id (run ∷ runs) [] = refl
length-behind id (run ∷ runs) (place ∷ places) = ap suc (length-behind id runs places)

-- ---- fewer entries are left

-- the number of entries of all runs
abbrev pub entries_left : Runs → ℕ
entries_left [] = 0
entries_left (None ∷ runs) = entries_left runs
entries_left (Some entries ∷ runs) = length entries + entries_left runs

shorter : (id : ShardId) (entries : List EntryValue) → length (without id entries) ≤ length entries
shorter id [] = omega arith
shorter id (e ∷ entries) = by (is_eq (id_cmp e.id id))
  where
    by : (t : Bool) → length (cond t entries (e ∷ entries)) ≤ suc (length entries)
    by true = omega arith
    by false = omega arith

no_more : (id : ShardId) (runs : Runs) → entries_left (all_without id runs) ≤ entries_left runs
no_more id [] = omega arith
no_more id (None ∷ runs) = no_more id runs
no_more id (Some entries ∷ runs) = omega (arith, shorter id entries, no_more id runs)

-- fewer entries are left
pub fewer : (id : ShardId) (runs : Runs) (k : ℕ) (e : EntryValue) → first_of runs k ≡ Some e → e.id ≡ id →
    entries_left (all_without id runs) < entries_left runs
fewer id [] k e h own = cc
fewer id (None ∷ runs) zero e h own = cc
fewer id (Some [] ∷ runs) zero e h own = cc
fewer id (Some (x ∷ entries) ∷ runs) zero e h own =
    let same : x.id ≡ id = cc in
    rw (same, itself id) (omega (arith, no_more id runs))
fewer id (None ∷ runs) (suc k) e h own = fewer id runs k e h own
fewer id (Some entries ∷ runs) (suc k) e h own = omega (arith, shorter id entries, fewer id runs k e h own)
