-- What is bound as every cursor at the least identifier moves on: its newest binding comes first in the shard map of what
-- was left, followed by the shard map of what is left then. If nothing is left, nothing is bound.
use Rattle.std.proofs.Common.{◌≡◌, ◌<◌, ◌⊎◌, ◌↔◌, ℕ, zero, suc, Bool, true, false, not, cond, IsTrue, Option, Some, None, List, [], ◌∷◌, ◌++◌, length, All, Contains, arith, refl, sym, ◌∙◌, ap, inl, inr}
use Rattle.std.specs.Prelude.{filter, ◌==◌, slice_get}
use Rattle.std.specs.Option.{option_map}
use Rattle.std.specs.Ordering.{is_eq}
use Rattle.std.proofs.lemmas.Bool.{false≢true, ne_eqb}
use Rattle.std.proofs.lemmas.Bool.Decides.{nat_tests}
use Rattle.std.proofs.lemmas.List.{append-nil, append_assoc}
use Rattle.std.proofs.lemmas.List.Elements.{All-cons}
use Rattle.std.proofs.lemmas.List.Kept.{AllPairs-cons}
use Rattle.std.proofs.lemmas.Option.{none-some, slice_get-map}
use Rattle.list_facts.proofs.Elements.{Contains-behind, Contains-cases}
use Rattle.scrub_run.specs.declared.shard_id.ShardId.{ShardId}
use Rattle.scrub_run.specs.Entry.{EntryValue, IsBelow}
use Rattle.scrub_run.specs.Run.{RisesById}
use Rattle.scrub_merge.specs.Binding.{BindingValue, Runs, IsEntryOf, IsNewestBinding}
use Rattle.scrub_merge.specs.ShardMap.{IsShardMap}
use Rattle.scrub_merge.specs.steps.Cursors.{LostBefore, id_cmp, has_locator, ahead, places_past, first_of, IsLeast, IsFirstWith, AreEmpty, AreRising, IsBound, Continues}
use Rattle.scrub_merge.proofs.Identifiers.{id_cmp_total, same_id, itself, not_below_itself, not_less}
use Rattle.scrub_merge.proofs.Maps.{one_newest}
use Rattle.scrub_merge.proofs.Left.{without, all_without, first_is, first_entry, rising_left, left_behind}

-- ---- one run without its first entry, if that has the least identifier

behind_first : (x : EntryValue) (xs : List EntryValue) (e : EntryValue) → RisesById (x ∷ xs) → Contains xs e →
    IsBelow x.id e.id
behind_first x xs e rising (k, here, is) = rw is at (rising zero (suc k) e (omega arith) (omega (arith, here)))

module _ (id : ShardId) where
  -- no lesser identifier is first
  abbrev IsNotPassed : List EntryValue → Type 0
  IsNotPassed entries = (e : EntryValue) → slice_get entries 0 ≡ Some e → IsBelow e.id id → ⊥

  kept_without : (entries : List EntryValue) (e : EntryValue) → Contains entries e → (e.id ≡ id → ⊥) →
      Contains (without id entries) e
  kept_without [] e c other = c
  kept_without (x ∷ entries) e c other = by (is_eq (id_cmp x.id id)) refl
    where
      by : (t : Bool) → is_eq (id_cmp x.id id) ≡ t → Contains (cond t entries (x ∷ entries)) e
      by true h =
          elim (Contains-cases x entries e c)
          [ inl is ↦ absurd (other (rw is at (same_id x.id id h))) | inr later ↦ later ]
      by false h = c

  from_without : (entries : List EntryValue) (e : EntryValue) → Contains (without id entries) e → Contains entries e
  from_without [] e c = c
  from_without (x ∷ entries) e c = by (is_eq (id_cmp x.id id)) c
    where
      by : (t : Bool) → Contains (cond t entries (x ∷ entries)) e → Contains (x ∷ entries) e
      by true d = Contains-behind x entries e d
      by false d = d

  above_without : (entries : List EntryValue) (e : EntryValue) → RisesById entries → IsNotPassed entries →
      Contains (without id entries) e → IsBelow id e.id
  above_without [] e rising least c = absurd (omega (arith, c.1))
  above_without (x ∷ entries) e rising least c = by (is_eq (id_cmp x.id id)) refl c
    where
      by : (t : Bool) → is_eq (id_cmp x.id id) ≡ t → Contains (cond t entries (x ∷ entries)) e → IsBelow id e.id
      by true h d = rw (same_id x.id id h) at (behind_first x entries e rising d)
      by false h d =
          let first : IsBelow id x.id = not_less x.id id h (least x refl) in
          elim (Contains-cases x entries e d) [
            | inl is ↦ rw is at first
            | inr later ↦ id_cmp_total.trans id x.id e.id first (behind_first x entries e rising later)
          ]

  -- an identifier that is in a run and isn't passed is first in it
  stands_first : (entries : List EntryValue) (e : EntryValue) → RisesById entries → IsNotPassed entries →
      Contains entries e → e.id ≡ id → slice_get entries 0 ≡ Some e
  stands_first [] e rising least c own = absurd (omega (arith, c.1))
  stands_first (x ∷ entries) e rising least c own = elim (Contains-cases x entries e c) [
    | inl is ↦ ap Some is
    | inr later ↦ absurd (least x refl (rw own at (behind_first x entries e rising later)))
  ]

-- ---- how many locators

some_length : (n : ℕ) → not (n == 0) ≡ true → 0 < n
some_length n h = grind (arith, nat_tests)

no_length : (n : ℕ) → not (n == 0) ≡ false → 0 < n → ⊥
no_length n h some = grind (arith, nat_tests)

-- ---- all runs

module _ (runs : Runs) (id : ShardId) where
  without_at : (k : ℕ) (run : Option (List EntryValue)) → slice_get runs k ≡ Some run →
      slice_get (all_without id runs) k ≡ Some (option_map (without id) run)
  without_at k run is = rw (slice_get-map (option_map (without id)) runs k, is)

  -- a run of what is left then is part of one of what was left
  was_at : (k : ℕ) (entries : List EntryValue) → slice_get (all_without id runs) k ≡ Some (Some entries) →
      (all : List EntryValue) × (slice_get runs k ≡ Some (Some all)) × (entries ≡ without id all)
  was_at k entries is = by (slice_get runs k) refl (rw (slice_get-map (option_map (without id)) runs k) at is)
    where
      by : (o : Option (Option (List EntryValue))) → slice_get runs k ≡ o →
          option_map (option_map (without id)) o ≡ Some (Some entries) →
          (all : List EntryValue) × (slice_get runs k ≡ Some (Some all)) × (entries ≡ without id all)
      by None was h = cc
      by (Some None) was h = cc
      by (Some (Some all)) was h = (all, was, cc)

  entry_kept : {k : ℕ} {e : EntryValue} → IsEntryOf runs k e → (e.id ≡ id → ⊥) → IsEntryOf (all_without id runs) k e
  entry_kept {k} {e} at other = record {
    entries = without id at.entries;
    is_read = without_at k (Some at.entries) at.is_read;
    among = kept_without id at.entries e at.among other;
  }

  entry_from : {k : ℕ} {e : EntryValue} → IsEntryOf (all_without id runs) k e → IsEntryOf runs k e
  entry_from {k} {e} at =
      let was = was_at k at.entries at.is_read in
      record { entries = was.0; is_read = was.1; among = from_without id was.0 e (rw was.2 at at.among) }

  lost_from : (k : ℕ) → slice_get (all_without id runs) k ≡ Some None → slice_get runs k ≡ Some None
  lost_from k is = by (slice_get runs k) refl (rw (slice_get-map (option_map (without id)) runs k) at is)
    where
      by : (o : Option (Option (List EntryValue))) → slice_get runs k ≡ o →
          option_map (option_map (without id)) o ≡ Some None → slice_get runs k ≡ Some None
      by None was h = cc
      by (Some None) was h = was
      by (Some (Some all)) was h = cc

  lost_without : (n : ℕ) → LostBefore (all_without id runs) n ↔ LostBefore runs n
  lost_without n = (λ l. (l.0, l.1, lost_from l.0 l.2), λ l. (l.0, l.1, without_at l.0 None l.2))

  newest_down : {b : BindingValue} → IsNewestBinding runs b → (b.id ≡ id → ⊥) → IsNewestBinding (all_without id runs) b
  newest_down {b} h other = record {
    entry = entry_kept h.entry other;
    first = λ k e before at same. h.first k e before (entry_from at) same;
    doubt = (λ d. (lost_without b.run).1 (h.doubt.0 d), λ l. h.doubt.1 ((lost_without b.run).0 l));
  }

-- ---- newest bindings, if the identifiers rise and none is below this one

module _ {runs : Runs} {id : ShardId} (rising : AreRising runs) (least : IsLeast runs id) where
  not_passed : (k : ℕ) (entries : List EntryValue) → slice_get runs k ≡ Some (Some entries) → IsNotPassed id entries
  not_passed k entries is e first = least.least k e (first_is runs k entries is ∙ first)

  entry_above : {k : ℕ} {e : EntryValue} → IsEntryOf (all_without id runs) k e → IsBelow id e.id
  entry_above {k} {e} at =
      let was = was_at runs id k at.entries at.is_read in
      above_without id was.0 e (rising k was.0 was.1) (not_passed k was.0 was.1) (rw was.2 at at.among)

  -- the newest run in which the least identifier is first has its newest binding
  pub newest_made : {number : ℕ} {doubtful : Bool} (w : IsFirstWith runs id number) →
      IsTrue doubtful ↔ LostBefore runs number →
      IsNewestBinding runs (record { id = w.entry.id; locators = w.entry.locators; run = number; doubtful = doubtful })
  newest_made {number} w doubt = record {
    entry = first_entry runs number w.entry w.stands;
    first = λ k e before at same.
        let own : e.id ≡ id = same ∙ w.own in
        let first : slice_get at.entries 0 ≡ Some e =
        stands_first id at.entries e (rising k at.entries at.is_read) (not_passed k at.entries at.is_read) at.among
        own in
        w.newest k e before (first_is runs k at.entries at.is_read ∙ first) own;
    doubt = doubt;
  }

  newest_up : {b : BindingValue} → IsNewestBinding (all_without id runs) b → IsNewestBinding runs b
  newest_up {b} h = record {
    entry = entry_from runs id h.entry;
    first = λ k e before at same.
        h.first k e before
        (entry_kept runs id at (λ own. not_below_itself id (rw (sym same ∙ own) at (entry_above h.entry)))) same;
    doubt = (λ d. (lost_without runs id b.run).0 (h.doubt.0 d), λ l. h.doubt.1 ((lost_without runs id b.run).1 l));
  }

  -- ---- the shard map

  -- the shard map of what was left begins with the newest binding of the least identifier, if that has a locator
  pub next_bound : {b : BindingValue} {later : List BindingValue} → IsNewestBinding runs b → b.id ≡ id →
      IsShardMap (all_without id runs) later → IsShardMap runs (filter has_locator (b ∷ []) ++ later)
  next_bound {b} {later} newest own map = by (has_locator b) refl
    where
      up : All (IsNewestBinding runs) later
      up k d here = newest_up (map.newest k d here)

      above : All (λ c. IsBelow b.id c.id) later
      above k d here = rw own (entry_above (map.newest k d here).entry)

      -- any other newest binding is one of what is left then
      among : {c : BindingValue} → IsNewestBinding runs c → 0 < length c.locators → (b ≡ c) ⊎ Contains later c
      among {c} h has = which (is_eq (id_cmp c.id id)) refl
        where
          which : (t : Bool) → is_eq (id_cmp c.id id) ≡ t → (b ≡ c) ⊎ Contains later c
          which true s = inl (one_newest rising newest h (own ∙ sym (same_id c.id id s)))
          which false s =
              inr (map.all c (newest_down runs id h (λ same. false≢true (sym (rw same at s) ∙ itself id))) has)

      by : (t : Bool) → has_locator b ≡ t → IsShardMap runs (cond t (b ∷ []) [] ++ later)
      by true has = record {
        rising = AllPairs-cons (λ c d. IsBelow c.id d.id) b later above map.rising;
        bound =
            All-cons (λ c. 0 < length c.locators) b later (some_length (length b.locators) has)
            map.bound;
        newest = All-cons (IsNewestBinding runs) b later newest up;
        all = λ c h some.
            elim (among h some) [ inl is ↦ (zero, omega arith, is) | inr c' ↦ Contains-behind b later c c' ];
      }
      by false hasn't = record {
        rising = map.rising;
        bound = map.bound;
        newest = up;
        all = λ c h some.
            elim (among h some)
            [ inl is ↦ absurd (no_length (length b.locators) hasn't (rw (← is) at some)) | inr c' ↦ c' ];
      }

-- if nothing is left, nothing is bound
pub none_bound : (runs : Runs) → AreEmpty runs → IsShardMap runs []
none_bound runs empty = record {
  rising = λ i j d order here. absurd (omega (arith, here));
  bound = λ k d here. absurd (omega (arith, here));
  newest = λ k d here. absurd (omega (arith, here));
  all = λ b h has.
      absurd
      (nothing h.entry.entries h.entry.among (sym (first_is runs b.run h.entry.entries h.entry.is_read) ∙ empty b.run));
}
  where
    nothing : {e : EntryValue} (entries : List EntryValue) → Contains entries e → slice_get entries 0 ≡ None → ⊥
    nothing [] c h = omega (arith, c.1)
    nothing (x ∷ entries) c h = none-some x (sym h)

-- the first entry of the newest run with the least identifier binds it
pub bound_made : {rest : Runs} {id : ShardId} {number : ℕ} {doubtful : Bool} {e : EntryValue} {old new : List BindingValue} →
    IsFirstWith rest id number → first_of rest number ≡ Some e → AreRising rest →
    IsLeast rest id → IsTrue doubtful ↔ LostBefore rest number →
    new ≡ old ++ filter has_locator (record { id = e.id; locators = e.locators; run = number; doubtful = doubtful } ∷ []) →
    IsBound rest id old new
bound_made {rest} {id} {number} {doubtful} {e} w stands rising least doubt appended = record {
  binding = record { id = e.id; locators = e.locators; run = number; doubtful = doubtful };
  newest = newest_made rising least here doubt;
  own = here.own;
  appended = appended;
}
  where
    same : w.entry ≡ e
    same = cc (stands, w.stands)

    here : IsFirstWith rest id number
    here = record { entry = e; stands = stands; own = rw same at w.own; newest = w.newest }

-- a deleted shard isn't bound
pub no_locators_add_none : (b : BindingValue) (old : List BindingValue) → length b.locators ≡ 0 →
    old ≡ old ++ filter has_locator (b ∷ [])
no_locators_add_none b old none = rw (none, append-nil)

-- a shard with locators is
pub locators_add_one : (b : BindingValue) (old : List BindingValue) → (length b.locators ≡ 0 → ⊥) →
    old ++ b ∷ [] ≡ old ++ filter has_locator (b ∷ [])
locators_add_one b old some = rw (ne_eqb (length b.locators) 0 some)

-- ---- the step of the merge, and its end

-- the map that is left continues what is bound by one more
pub continues_step : (all runs : Runs) (places : List ℕ) {id : ShardId} {old new : List BindingValue} →
    length places ≡ length runs → AreRising runs → IsLeast (ahead runs places) id →
    IsBound (ahead runs places) id old new → Continues all (ahead runs places) old →
    Continues all (ahead runs (places_past id runs places)) new
continues_step all runs places {id} count rising least bound so_far later map =
    rw (bound.appended, append_assoc)
    (so_far _ (next_bound (rising_left runs places rising) least bound.newest bound.own (rw (left_behind id runs places count) at map)))

-- if nothing is left, what is bound is the map
pub continues_end : (runs rest : Runs) (bindings : List BindingValue) → AreEmpty rest → Continues runs rest bindings →
    IsShardMap runs bindings
continues_end runs rest bindings empty so_far = rw append-nil at (so_far [] (none_bound rest empty))
