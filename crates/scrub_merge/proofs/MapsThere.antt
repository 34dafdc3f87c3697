-- Each identifier that a run has is bound in one, so runs have a shard map.
use Rattle.std.proofs.Common.{◌≡◌, ◌⊎◌, ◌↔◌, ◌<◌, ℕ, suc, Bool, true, false, IsTrue, List, [], ◌∷◌, ◌++◌, map, length, get_or, All, AllPairs, Contains, arith, refl, sym, ◌∙◌, ap, subst, Option, Some, None, inl, inr, slice_get}
use Rattle.std.proofs.lemmas.Bool.{false≢true}
use Rattle.std.proofs.lemmas.List.{get_or-map, length-map}
use Rattle.std.proofs.lemmas.List.Elements.{All-cons, All-nil, Contains-append_left, Contains-append_right}
use Rattle.std.proofs.lemmas.List.Kept.{AllPairs-cons}
use Rattle.std.proofs.lemmas.Map.Keys.{Less-from_sorted}
use Rattle.std.proofs.lemmas.Option.{get_or_from_slice_get, none-some, same_Some, slice_get_within}
use Rattle.list_facts.proofs.Decisions.{Decided, decided_less, decided_like, decided_numbers, first_below, some_below, some_element}
use Rattle.list_facts.proofs.Elements.{Contains-behind, Contains-cases}
use Rattle.list_facts.proofs.Sorting.{sorted_once}
use Rattle.scrub_run.specs.declared.shard_id.ShardId.{ShardId}
use Rattle.scrub_run.specs.Entry.{EntryValue, IsBelow}
use Rattle.scrub_merge.specs.Binding.{BindingValue, Runs, IsEntryOf, IsNewestBinding}
use Rattle.scrub_merge.specs.ShardMap.{AreRuns, IsShardMap}
use Rattle.scrub_merge.specs.steps.Cursors.{LostBefore, id_cmp, AreRising}
use Rattle.scrub_merge.proofs.Identifiers.{id_cmp_total, id_cmp_exact}
use Rattle.scrub_merge.proofs.Maps.{entry_of, one_newest}

-- ---- the identifiers of all entries

abbrev ids_of : Runs → List ShardId
ids_of [] = []
ids_of (None ∷ runs) = ids_of runs
ids_of (Some entries ∷ runs) = map (λ e. e.id) entries ++ ids_of runs

-- those of a run, or of the runs behind it
among_first : (run : Option (List EntryValue)) (runs : Runs) (entries : List EntryValue) (e : EntryValue) → Contains entries e →
    (Contains runs (Some entries) → Contains (ids_of runs) e.id) → (run ≡ Some entries) ⊎ Contains runs (Some entries) →
    Contains (ids_of (run ∷ runs)) e.id
among_first None runs entries e has behind (inl is) = absurd (none-some entries is)
among_first None runs entries e has behind (inr later) = behind later
among_first (Some es) runs entries e has behind (inl is) =
    let there : Contains es e = subst (λ (fs : List EntryValue). Contains fs e) (sym (same_Some es entries is)) has in
    let long = length-map es (λ (f : EntryValue). f.id) in
    Contains-append_left (map (λ (f : EntryValue). f.id) es) (ids_of runs) e.id
    (there.0, omega (arith, there.1, long), get_or-map (λ (f : EntryValue). f.id) es there.0 e e.id there.1 ∙ ap (λ (f : EntryValue). f.id) there.2)
among_first (Some es) runs entries e has behind (inr later) =
    Contains-append_right (map (λ (f : EntryValue). f.id) es) (ids_of runs) e.id (behind later)

among : (runs : Runs) (entries : List EntryValue) (e : EntryValue) → Contains runs (Some entries) → Contains entries e →
    Contains (ids_of runs) e.id
among [] entries e there has = absurd (omega (arith, there.1))
among (run ∷ runs) entries e there has =
    among_first run runs entries e has (λ later. among runs entries e later has)
    (Contains-cases run runs (Some entries) there)

entry_among : (runs : Runs) (k : ℕ) (e : EntryValue) → IsEntryOf runs k e → Contains (ids_of runs) e.id
entry_among runs k e is =
    among runs is.entries e
    (k, slice_get_within runs k (Some is.entries) is.is_read, get_or_from_slice_get runs k (Some is.entries) (Some is.entries) is.is_read)
    is.among

-- ---- the newest binding of an identifier

-- two identifiers are equal, or not
pub decided_id : (a b : ShardId) → Decided (a ≡ b)
decided_id a b = decided_like (decided_numbers a.0 b.0) (λ e i. record { 0 = e i }) (ap (λ s. s.0))

-- run k has an entry of the identifier
abbrev Binds : Runs → ShardId → ℕ → Type 0
Binds runs id k = (e : EntryValue) × IsEntryOf runs k e × (e.id ≡ id)

decided_binds : (runs : Runs) (id : ShardId) (k : ℕ) → Decided (Binds runs id k)
decided_binds runs id k = by (slice_get runs k) refl
  where
    by : (o : Option (Option (List EntryValue))) → slice_get runs k ≡ o → Decided (Binds runs id k)
    by None e = inr (λ x. none-some _ (sym e ∙ x.1.is_read))
    by (Some None) e = inr (λ x. none-some _ (same_Some _ _ (sym e ∙ x.1.is_read)))
    by (Some (Some es)) e = at (some_element (λ (f : EntryValue). f.id ≡ id) (λ f. decided_id f.id id) es)
      where
        at : ((f : EntryValue) × Contains es f × (f.id ≡ id)) ⊎ ((f : EntryValue) → Contains es f → f.id ≡ id → ⊥) →
            Decided (Binds runs id k)
        at (inl (f, there, same)) = inl (f, record { entries = es; is_read = e; among = there }, same)
        at (inr none) = inr (λ x.
            let same : x.1.entries ≡ es = same_Some _ _ (same_Some _ _ (sym x.1.is_read ∙ e)) in
            none x.0 (rw same at x.1.among) x.2)

decided_lost : (runs : Runs) (k : ℕ) → Decided (slice_get runs k ≡ Some None)
decided_lost runs k = by (slice_get runs k)
  where
    by : (o : Option (Option (List EntryValue))) → Decided (o ≡ Some None)
    by None = inr (λ e. none-some _ e)
    by (Some None) = inl refl
    by (Some (Some es)) = inr (λ e. none-some _ (sym (same_Some _ _ e)))

doubt : (runs : Runs) (n : ℕ) → (b : Bool) × (IsTrue b ↔ LostBefore runs n)
doubt runs n = by (some_below (λ k. slice_get runs k ≡ Some None) (decided_lost runs) n)
  where
    by : ((k : ℕ) × (k < n) × (slice_get runs k ≡ Some None)) ⊎ ((k : ℕ) → k < n → slice_get runs k ≡ Some None → ⊥) →
        (b : Bool) × (IsTrue b ↔ LostBefore runs n)
    by (inl x) = (true, ((λ is. x), (λ l. refl)))
    by (inr none) = (false, ((λ is. absurd (false≢true is)), (λ l. absurd (none l.0 l.1 l.2))))

newest_of : (runs : Runs) (id : ShardId) →
    ((b : BindingValue) × IsNewestBinding runs b × (b.id ≡ id)) ⊎ ((b : BindingValue) → IsNewestBinding runs b → b.id ≡ id → ⊥)
newest_of runs id = by (first_below (Binds runs id) (decided_binds runs id) (length runs))
  where
    by : ((k : ℕ) × (k < length runs) × Binds runs id k × ((j : ℕ) → j < k → Binds runs id j → ⊥)) ⊎ ((k : ℕ) → k < length runs → Binds runs id k → ⊥) →
        ((b : BindingValue) × IsNewestBinding runs b × (b.id ≡ id)) ⊎ ((b : BindingValue) → IsNewestBinding runs b → b.id ≡ id → ⊥)
    by (inl x) =
        let e : EntryValue = x.2.0 in
        let d = doubt runs x.0 in
        inl (
          record { id = e.id; locators = e.locators; run = x.0; doubtful = d.0 },
          record { entry = x.2.1; first = λ j f before is same. x.3 j before (f, is, same ∙ x.2.2); doubt = d.1 },
          x.2.2,
        )
    by (inr none) = inr (λ b is same.
        none b.run (slice_get_within runs b.run _ is.entry.is_read) (entry_of b, is.entry, same))

-- ---- all of them

module _ (runs : Runs) (rise : AreRising runs) where
  record AreBoundBy (ids : List ShardId) (bs : List BindingValue) : Type 0 where
    pub rising : AllPairs (λ b c. IsBelow b.id c.id) bs
    pub bound : All (λ b. 0 < length b.locators) bs
    pub newest : All (IsNewestBinding runs) bs
    pub among : All (λ b. Contains ids b.id) bs
    pub all : (b : BindingValue) → IsNewestBinding runs b → 0 < length b.locators → Contains ids b.id → Contains bs b

  -- one more identifier, below those before, with its newest binding or none
  bind_one : (id : ShardId) (ids : List ShardId) → AllPairs IsBelow (id ∷ ids) → (bs : List BindingValue) × AreBoundBy ids bs →
      ((b : BindingValue) × IsNewestBinding runs b × (b.id ≡ id)) ⊎ ((b : BindingValue) → IsNewestBinding runs b → b.id ≡ id → ⊥) →
      (bs : List BindingValue) × AreBoundBy (id ∷ ids) bs
  bind_one id ids up rest found = by found
    where
      behind : All (λ (b : BindingValue). Contains (id ∷ ids) b.id) rest.0
      behind = λ k d here. Contains-behind id ids (get_or rest.0 k d).id (rest.1.among k d here)

      skip : ((b : BindingValue) → IsNewestBinding runs b → 0 < length b.locators → b.id ≡ id → ⊥) →
          (bs : List BindingValue) × AreBoundBy (id ∷ ids) bs
      skip none = (
        rest.0,
        record {
          rising = rest.1.rising;
          bound = rest.1.bound;
          newest = rest.1.newest;
          among = behind;
          all = λ b is bound there. at b is bound (Contains-cases id ids b.id there);
        },
      )
        where
          at : (b : BindingValue) → IsNewestBinding runs b → 0 < length b.locators → (id ≡ b.id) ⊎ Contains ids b.id →
              Contains rest.0 b
          at b is bound (inl same) = absurd (none b is bound (sym same))
          at b is bound (inr later) = rest.1.all b is bound later

      by : ((b : BindingValue) × IsNewestBinding runs b × (b.id ≡ id)) ⊎ ((b : BindingValue) → IsNewestBinding runs b → b.id ≡ id → ⊥) →
          (bs : List BindingValue) × AreBoundBy (id ∷ ids) bs
      by (inr none) = skip (λ b is bound same. none b is same)
      by (inl x) = with_locators (decided_less 0 (length x.0.locators))
        where
          above : (c : BindingValue) → Contains ids c.id → IsBelow x.0.id c.id
          above c there =
              subst (λ (i : ShardId). IsBelow i c.id) (sym x.2)
              (subst (IsBelow id) there.2 (up 0 (suc there.0) c.id (omega arith) (omega (arith, there.1))))

          with_locators : Decided (0 < length x.0.locators) → (bs : List BindingValue) × AreBoundBy (id ∷ ids) bs
          with_locators (inr deleted) = skip (λ b is some same.
              let e : b ≡ x.0 = one_newest rise is x.1 (same ∙ sym x.2) in
              deleted (subst (λ (c : BindingValue). 0 < length c.locators) e some))
          with_locators (inl some) = (
            x.0 ∷ rest.0,
            record {
              rising =
                  AllPairs-cons (λ (b c : BindingValue). IsBelow b.id c.id) x.0 rest.0
                  (λ k d here. above (get_or rest.0 k d) (rest.1.among k d here)) rest.1.rising;
              bound = All-cons (λ (b : BindingValue). 0 < length b.locators) x.0 rest.0 some rest.1.bound;
              newest = All-cons (IsNewestBinding runs) x.0 rest.0 x.1 rest.1.newest;
              among =
                  All-cons (λ (b : BindingValue). Contains (id ∷ ids) b.id) x.0 rest.0
                  (0, omega arith, sym x.2) behind;
              all = λ b is has there. at b is has (Contains-cases id ids b.id there);
            },
          )
            where
              at : (b : BindingValue) → IsNewestBinding runs b → 0 < length b.locators →
                  (id ≡ b.id) ⊎ Contains ids b.id → Contains (x.0 ∷ rest.0) b
              at b is has (inl same) = (0, omega arith, one_newest rise x.1 is (x.2 ∙ same))
              at b is has (inr later) = Contains-behind x.0 rest.0 b (rest.1.all b is has later)

  bind_all : (ids : List ShardId) → AllPairs IsBelow ids → (bs : List BindingValue) × AreBoundBy ids bs
  bind_all [] up = (
    [],
    record {
      rising = λ i j d lt here. absurd (omega (arith, here));
      bound = All-nil (λ (b : BindingValue). 0 < length b.locators);
      newest = All-nil (IsNewestBinding runs);
      among = All-nil (λ (b : BindingValue). Contains [] b.id);
      all = λ b is bound there. absurd (omega (arith, there.1));
    },
  )
  bind_all (id ∷ ids) up =
      bind_one id ids up (bind_all ids (λ i j d lt here. up (suc i) (suc j) d (omega (arith, lt)) (omega (arith, here))))
      (newest_of runs id)

-- runs have a shard map
pub some_shard_map : (runs : Runs) → AreRuns runs → (bindings : List BindingValue) × IsShardMap runs bindings
some_shard_map runs are =
    let rise : AreRising runs = λ k entries is. (are k entries is).rising in
    let ids = sorted_once id_cmp_total id_cmp_exact (ids_of runs) in
    let up : AllPairs IsBelow ids.0 = λ i j d lt here. Less-from_sorted id_cmp ids.0 i j d ids.1 lt here in
    let bs = bind_all runs rise ids.0 up in (
      bs.0,
      record {
        rising = bs.1.rising;
        bound = bs.1.bound;
        newest = bs.1.newest;
        all = λ b is bound.
            bs.1.all b is bound ((ids.2 b.id).1 (entry_among runs b.run (entry_of b) is.entry));
      },
    )
