-- Moving one cursor past the least identifier.
use Rattle.std.proofs.Common.{◌≡◌, ◌+◌, ◌<◌, ◌^◌, ℕ, zero, suc, Bool, true, false, Option, Some, None, IfSome, List, [], ◌∷◌, length, get_or, slice_set, arith, refl, sym, ◌∙◌, ap, inl, inr}
use Rattle.std.specs.Prelude.{slice_get, unwrap_or}
use Rattle.std.specs.Ordering.{is_eq}
use Rattle.std.proofs.lemmas.Bool.{cases_eq, cases_lt}
use Rattle.std.proofs.lemmas.List.{get_or-set_same, get_or-set_other, length-set, length-drop}
use Rattle.std.proofs.lemmas.Option.{slice_get_within, slice_get_read, get_or_from_slice_get}
use Rattle.scrub_run.specs.declared.shard_id.ShardId.{ShardId}
use Rattle.scrub_run.specs.Entry.{EntryValue, IsBelow}
use Rattle.scrub_run.specs.Run.{RisesById, AreEntries}
use Rattle.scrub_merge.specs.Binding.{Runs}
use Rattle.scrub_merge.specs.ShardMap.{AreRuns}
use Rattle.scrub_merge.specs.steps.Cursors.{id_cmp, entry_at, has_id, ahead, first_of, place_past, places_past, AreRising}
use Rattle.scrub_merge.proofs.Identifiers.{id_cmp_total, same_id, itself, not_below_itself}
use Rattle.scrub_merge.proofs.Left.{first_left, under_first, entries_left}

-- the runs' identifiers rise
pub rising_runs : (runs : Runs) → AreRuns runs → AreRising runs
rising_runs runs h k entries is = (h k entries is).rising

-- the places after one cursor moved on
abbrev pub one_on : List ℕ → ℕ → List ℕ
one_on places number = slice_set places number (get_or places number 0 + 1)

module _ (runs : Runs) (places : List ℕ) (number place : ℕ) (count : length places ≡ length runs) where
  set_left : (k : ℕ) →
      first_of (ahead runs (slice_set places number place)) k ≡ entry_at (unwrap_or (slice_get runs k) None) (get_or (slice_set places number place) k 0)
  set_left k = first_left runs (slice_set places number place) k (length-set places number place ∙ count)

  -- the other runs have the same entries ahead
  pub first_elsewhere : (k : ℕ) → (k ≡ number → ⊥) →
      first_of (ahead runs (slice_set places number place)) k ≡ first_of (ahead runs places) k
  first_elsewhere k other =
      rw (set_left k, first_left runs places k count, get_or-set_other places number k place 0 other)

  -- the entry that is under the cursor then
  pub first_moved : {run : Option (List EntryValue)} → number < length runs → run ≡ get_or runs number run →
      first_of (ahead runs (slice_set places number place)) number ≡ entry_at run place
  first_moved {run} here is =
      rw (
        set_left number,
        slice_get_read runs (length runs) number run refl here is,
        get_or-set_same places number place 0 (omega arith),
      )

-- ---- one run

-- the entry after another in a run has a greater identifier
rises_at : (run : Option (List EntryValue)) (place : ℕ) {e f : EntryValue} →
    ((entries : List EntryValue) → run ≡ Some entries → RisesById entries) →
    entry_at run place ≡ Some e → entry_at run (place + 1) ≡ Some f → IsBelow e.id f.id
rises_at None place rising at next = cc
rises_at (Some entries) place {e} {f} rising at next =
    rw (get_or_from_slice_get entries place e e at, get_or_from_slice_get entries (place + 1) f e next) at
    (rising entries refl place (place + 1) e (omega arith) (slice_get_within entries (place + 1) f next))

-- ---- the places past an identifier

has_not : (id : ShardId) (o : Option EntryValue) → ((f : EntryValue) → o ≡ Some f → f.id ≡ id → ⊥) → has_id id o ≡ false
has_not id None other = refl
has_not id (Some f) other = by (is_eq (id_cmp f.id id)) refl
  where
    by : (t : Bool) → is_eq (id_cmp f.id id) ≡ t → t ≡ false
    by true same = absurd (other f refl (same_id f.id id same))
    by false same = refl

-- if no cursor has the identifier, the places are already past it
pub stand_behind : (id : ShardId) (runs : Runs) (places : List ℕ) → length places ≡ length runs →
    ((k : ℕ) (e : EntryValue) → first_of (ahead runs places) k ≡ Some e → e.id ≡ id → ⊥) →
    places_past id runs places ≡ places
stand_behind id [] places count none = refl
stand_behind id (run ∷ runs) [] count none = refl
stand_behind id (run ∷ runs) (place ∷ places) count none =
    rw (
      has_not id (entry_at run place) (λ f at. none zero f (under_first run place ∙ at)),
      stand_behind id runs places (omega (arith, count)) (λ k. none (suc k)),
    )

-- no first identifier is below another
abbrev pub AreNotBelow : ShardId → Runs → Type 0
AreNotBelow id runs = (k : ℕ) (e : EntryValue) → first_of runs k ≡ Some e → IsBelow e.id id → ⊥

-- an entry with the identifier
module _ (id : ShardId) {e : EntryValue} (own : e.id ≡ id) where
  has_it : (o : Option EntryValue) → o ≡ Some e → has_id id o ≡ true
  has_it o at = rw (at, own, itself id)

  -- past an identifier, a cursor moves on once
  past_once : (run : Option (List EntryValue)) (place : ℕ) →
      ((entries : List EntryValue) → run ≡ Some entries → RisesById entries) → entry_at run place ≡ Some e →
      place_past id run (place + 1) ≡ place_past id run place
  past_once run place rising at =
      rw (
        has_not id (entry_at run (place + 1))
            (λ f next same. not_below_itself id (rw (own, same) at (rises_at run place rising at next))),
        has_it (entry_at run place) at,
      )

  -- once a cursor with an identifier moved on, the places past the identifier are the same
  pub same_behind : (runs : Runs) (places : List ℕ) (number : ℕ) → length places ≡ length runs → AreRising runs →
      first_of (ahead runs places) number ≡ Some e →
      places_past id runs (one_on places number) ≡ places_past id runs places
  same_behind [] places number count rising at = cc
  same_behind (run ∷ runs) [] number count rising at = absurd (omega (arith, count))
  same_behind (run ∷ runs) (place ∷ places) zero count rising at =
      λ i. past_once run place (λ entries is. rising zero entries (ap Some is)) (sym (under_first run place) ∙ at) i ∷
      places_past id runs places
  same_behind (run ∷ runs) (place ∷ places) (suc number) count rising at =
      λ i. place_past id run place ∷ same_behind runs places number (omega (arith, count)) (λ k. rising (suc k)) at i

  -- the identifier under a cursor that moves on rises
  pub still_not_below : (runs : Runs) (places : List ℕ) (number : ℕ) → length places ≡ length runs → AreRising runs →
      first_of (ahead runs places) number ≡ Some e →
      AreNotBelow id (ahead runs places) → AreNotBelow id (ahead runs (one_on places number))
  still_not_below runs places number count rising at not k f first below = elim (cases_eq k number) [
    | inl same ↦
        not_below_itself id
        (id_cmp_total.trans id f.id id (rw own at (next runs places number count rising at (rw same at first))) below)
    | inr other ↦
        not k f (rw (first_elsewhere runs places number (get_or places number 0 + 1) count k other) at first) below
  ]
    where
      next : (rs : Runs) (ps : List ℕ) (n : ℕ) → length ps ≡ length rs → AreRising rs →
          first_of (ahead rs ps) n ≡ Some e → first_of (ahead rs (one_on ps n)) n ≡ Some f → IsBelow e.id f.id
      next [] ps n c r here there = cc
      next (run ∷ rs) [] n c r here there = absurd (omega (arith, c))
      next (run ∷ rs) (p ∷ ps) zero c r here there =
          rises_at run p (λ entries is. r zero entries (ap Some is)) (sym (under_first run p) ∙ here)
          (sym (under_first run (p + 1)) ∙ there)
      next (run ∷ rs) (p ∷ ps) (suc n) c r here there = next rs ps n (omega (arith, c)) (λ k. r (suc k)) here there

-- ---- an entry is under a cursor

module _ {e : EntryValue} where
  -- fewer entries are left once the cursor moved on
  pub fewer_one : (runs : Runs) (places : List ℕ) (number : ℕ) → length places ≡ length runs →
      first_of (ahead runs places) number ≡ Some e →
      entries_left (ahead runs (one_on places number)) < entries_left (ahead runs places)
  fewer_one [] places number count at = cc
  fewer_one (run ∷ runs) [] number count at = absurd (omega (arith, count))
  fewer_one (None ∷ runs) (place ∷ places) zero count at = cc
  fewer_one (Some entries ∷ runs) (place ∷ places) zero count at =
      omega (
        arith,
        slice_get_within entries place e (sym (under_first (Some entries) place) ∙ at),
        length-drop place entries,
        length-drop (place + 1) entries,
      )
  fewer_one (None ∷ runs) (place ∷ places) (suc number) count at =
      fewer_one runs places number (omega (arith, count)) at
  fewer_one (Some entries ∷ runs) (place ∷ places) (suc number) count at =
      omega (arith, fewer_one runs places number (omega (arith, count)) at)

  -- its place is within its run
  pub place_within : (runs : Runs) (places : List ℕ) (number : ℕ) → length places ≡ length runs → AreRuns runs →
      first_of (ahead runs places) number ≡ Some e → get_or places number 0 < 2 ^ 32
  place_within runs places number count are at =
      by (slice_get runs number) refl (rw (first_left runs places number count) at at)
    where
      by : (o : Option (Option (List EntryValue))) → slice_get runs number ≡ o →
          entry_at (unwrap_or o None) (get_or places number 0) ≡ Some e → get_or places number 0 < 2 ^ 32
      by None is h = cc
      by (Some None) is h = cc
      by (Some (Some entries)) is h =
          omega (arith, slice_get_within entries (get_or places number 0) e h, (are number entries is).count)

-- ---- runs so far

-- each run so far that isn't lost has the entries of a run
abbrev pub AreRunsTo : ℕ → Runs → Type 0
AreRunsTo number runs =
    (k : ℕ) (entries : List EntryValue) → k < number → slice_get runs k ≡ Some (Some entries) → AreEntries entries

-- one more run that has the entries of a run
pub runs_step : (runs : Runs) (number : ℕ) {run : Option (List EntryValue)} → number < length runs →
    run ≡ get_or runs number run → IfSome run AreEntries → AreRunsTo number runs → AreRunsTo (number + 1) runs
runs_step runs number {run} here is one are k entries before at = elim (cases_lt k number) [
  | inl earlier ↦ are k entries earlier at
  | inr not_earlier ↦
      let last : k ≡ number = omega (arith, before, not_earlier) in
      let same : run ≡ Some entries = cc (last, slice_get_read runs (length runs) number run refl here is, at) in
      rw same at one
]
