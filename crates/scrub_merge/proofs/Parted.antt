-- The shard maps of the entries before an identifier and of the others, one after the other, are the shard map of all.
use Rattle.std.proofs.Common.{◌≡◌, ◌<◌, ◌≤◌, ◌+◌, ◌↔◌, ℕ, zero, suc, Bool, true, false, not, cond, Option, Some, None, List, [], ◌∷◌, ◌++◌, length, get_or, take, drop, All, Contains, arith, refl, sym, ◌∙◌, ap, AllPairs}
use Rattle.std.specs.Prelude.{filter, slice_get}
use Rattle.std.specs.List.Sorted.{IsNonDecreasingBy, IsPartitionPoint, IsPartitionedBy, IsSortedBy}
use Rattle.std.specs.Option.{option_map}
use Rattle.std.specs.Ordering.{is_eq, is_lt, ordering_index, ordering_reverse}
use Rattle.std.specs.declared.cmp.Ordering.{Ordering}
use Rattle.std.specs.declared.cmp.Ordering.TheVariants.{Less, Equal, Greater}
use Rattle.std.proofs.lemmas.Bool.{false≢true}
use Rattle.std.proofs.lemmas.List.Elements.{All-append, All-contains, All-filter, Contains-append_left, Contains-append_right, Contains-get_or}
use Rattle.std.proofs.lemmas.List.Filters.{length-filter_both}
use Rattle.std.proofs.lemmas.List.Kept.{AllPairs-cons, AllPairs-filter}
use Rattle.std.proofs.lemmas.List.Sorted.{searchable_from_sorted}
use Rattle.std.proofs.lemmas.Option.{slice_get-map}
use Rattle.list_facts.proofs.Elements.{Contains-behind, Contains-filter, Contains-from_filter}
use Rattle.scrub_run.specs.declared.shard_id.ShardId.{ShardId}
use Rattle.scrub_run.specs.Entry.{EntryValue, IsBelow}
use Rattle.scrub_run.specs.Run.{AreEntries, RisesById}
use Rattle.scrub_run.specs.steps.Parts.{IsEntry}
use Rattle.scrub_merge.specs.Binding.{BindingValue, Runs, IsEntryOf, IsNewestBinding}
use Rattle.scrub_merge.specs.ShardMap.{IsShardMap}
use Rattle.scrub_merge.specs.steps.Cursors.{LostBefore, id_cmp}
use Rattle.scrub_merge.specs.steps.Parts.{is_before, kept}
use Rattle.scrub_merge.proofs.Identifiers.{id_cmp_total, same_id}

-- ---- the entries that pass a test

module _ (passes : ShardId → Bool) (runs : Runs) where
  abbrev some : List EntryValue → List EntryValue
  some entries = filter (λ e. passes e.id) entries

  kept_at : (k : ℕ) (run : Option (List EntryValue)) → slice_get runs k ≡ Some run →
      slice_get (kept passes runs) k ≡ Some (option_map some run)
  kept_at k run is = rw (slice_get-map (option_map some) runs k, is)

  was_at : (k : ℕ) (entries : List EntryValue) → slice_get (kept passes runs) k ≡ Some (Some entries) →
      (all : List EntryValue) × (slice_get runs k ≡ Some (Some all)) × (entries ≡ some all)
  was_at k entries is = by (slice_get runs k) refl (rw (slice_get-map (option_map some) runs k) at is)
    where
      by : (o : Option (Option (List EntryValue))) → slice_get runs k ≡ o →
          option_map (option_map some) o ≡ Some (Some entries) →
          (all : List EntryValue) × (slice_get runs k ≡ Some (Some all)) × (entries ≡ some all)
      by None was h = cc
      by (Some None) was h = cc
      by (Some (Some all)) was h = (all, was, cc)

  entry_kept : {k : ℕ} {e : EntryValue} → IsEntryOf runs k e → passes e.id ≡ true → IsEntryOf (kept passes runs) k e
  entry_kept {k} {e} at passed = record {
    entries = some at.entries;
    is_read = kept_at k (Some at.entries) at.is_read;
    among = Contains-filter (λ f. passes f.id) at.entries e passed at.among;
  }

  entry_from : {k : ℕ} {e : EntryValue} → IsEntryOf (kept passes runs) k e → IsEntryOf runs k e × (passes e.id ≡ true)
  entry_from {k} {e} at =
      let was = was_at k at.entries at.is_read in
      let both = Contains-from_filter (λ f. passes f.id) was.0 e (rw was.2 at at.among) in
      (record { entries = was.0; is_read = was.1; among = both.0 }, both.1)

  lost_from : (k : ℕ) → slice_get (kept passes runs) k ≡ Some None → slice_get runs k ≡ Some None
  lost_from k is = by (slice_get runs k) refl (rw (slice_get-map (option_map some) runs k) at is)
    where
      by : (o : Option (Option (List EntryValue))) → slice_get runs k ≡ o →
          option_map (option_map some) o ≡ Some None → slice_get runs k ≡ Some None
      by None was h = cc
      by (Some None) was h = was
      by (Some (Some all)) was h = cc

  lost_kept : (n : ℕ) → LostBefore (kept passes runs) n ↔ LostBefore runs n
  lost_kept n = (λ l. (l.0, l.1, lost_from l.0 l.2), λ l. (l.0, l.1, kept_at l.0 None l.2))

  newest_up : {b : BindingValue} → IsNewestBinding (kept passes runs) b → IsNewestBinding runs b × (passes b.id ≡ true)
  newest_up {b} h =
      let own = entry_from h.entry in (
        record {
          entry = own.0;
          first = λ k e before at same. h.first k e before (entry_kept at (ap passes same ∙ own.1)) same;
          doubt = (λ d. (lost_kept b.run).0 (h.doubt.0 d), λ l. h.doubt.1 ((lost_kept b.run).1 l));
        },
        own.1,
      )

  newest_down : {b : BindingValue} → IsNewestBinding runs b → passes b.id ≡ true → IsNewestBinding (kept passes runs) b
  newest_down {b} h passed = record {
    entry = entry_kept h.entry passed;
    first = λ k e before at same. h.first k e before (entry_from at).0 same;
    doubt = (λ d. (lost_kept b.run).1 (h.doubt.0 d), λ l. h.doubt.1 ((lost_kept b.run).0 l));
  }

-- ---- lists one after the other

-- an identifier before another is below one that isn't
between : (id a b : ShardId) → is_before id a ≡ true → not (is_before id b) ≡ true → IsBelow a b
between id a b before not_before = by (id_cmp b id) refl (id_cmp a id) refl
  where
    by : (o : Ordering) → id_cmp b id ≡ o → (q : Ordering) → id_cmp a id ≡ q → IsBelow a b
    by Less h q g = absurd (false≢true (rw h at not_before))
    by Equal h Less g = rw (← same_id b id (ap is_eq h)) at g
    by Equal h Equal g = absurd (false≢true (rw g at before))
    by Equal h Greater g = absurd (false≢true (rw g at before))
    by Greater h Less g = id_cmp_total.trans a id b g (id_cmp_total.antisymm id b ∙ ap ordering_reverse h)
    by Greater h Equal g = absurd (false≢true (rw g at before))
    by Greater h Greater g = absurd (false≢true (rw g at before))

-- The identifiers of the bindings are in ascending order.
abbrev Rise : List BindingValue → Type 0
Rise xs = AllPairs (λ v w. IsBelow v.id w.id) xs

tail_rises : (x : BindingValue) (xs : List BindingValue) → Rise (x ∷ xs) → Rise xs
tail_rises x xs rising i j d order here = rising (suc i) (suc j) d (omega (arith, order)) (omega (arith, here))

joined_rises : (xs ys : List BindingValue) → Rise xs → Rise ys →
    ((b c : BindingValue) → Contains xs b → Contains ys c → IsBelow b.id c.id) → Rise (xs ++ ys)
joined_rises [] ys hx hy cross = hy
joined_rises (x ∷ xs) ys hx hy cross =
    let own : All (λ c. IsBelow x.id c.id) xs = λ k d here. hx zero (suc k) d (omega arith) (omega (arith, here)) in
    let others : All (λ c. IsBelow x.id c.id) ys =
    λ k d here. cross x (get_or ys k d) (zero, omega arith, refl) (Contains-get_or ys k d here) in
    AllPairs-cons (λ v w. IsBelow v.id w.id) x (xs ++ ys) (All-append (λ c. IsBelow x.id c.id) xs ys own others)
    (joined_rises xs ys (tail_rises x xs hx) hy (λ b c inside. cross b c (Contains-behind x xs b inside)))

-- ---- the shard map

module _ (runs : Runs) (id : ShardId) where
  abbrev other : ShardId → Bool
  other x = not (is_before id x)

  -- The map of the entries before an identifier, and then that of the others, is the map of all.
  pub maps_joined : (low high : List BindingValue) → IsShardMap (kept (is_before id) runs) low →
      IsShardMap (kept (λ x. not (is_before id x)) runs) high → IsShardMap runs (low ++ high)
  maps_joined low high l h = record {
    rising =
        joined_rises low high l.rising h.rising
        (λ b c in_low in_high.
        between id b.id c.id
        (newest_up (is_before id) runs (All-contains (IsNewestBinding (kept (is_before id) runs)) low b l.newest in_low)).1
        (newest_up other runs (All-contains (IsNewestBinding (kept other runs)) high c h.newest in_high)).1);
    bound =
        All-append (λ b. 0 < length b.locators) low high l.bound h.bound;
    newest =
        All-append (IsNewestBinding runs) low high (λ k d here. (newest_up (is_before id) runs (l.newest k d here)).0)
        (λ k d here. (newest_up other runs (h.newest k d here)).0);
    all = λ b newest some. by b newest some (is_before id b.id) refl;
  }
    where
      by : (b : BindingValue) → IsNewestBinding runs b → 0 < length b.locators → (t : Bool) → is_before id b.id ≡ t →
          Contains (low ++ high) b
      by b newest some true t =
          Contains-append_left low high b (l.all b (newest_down (is_before id) runs newest t) some)
      by b newest some false t =
          Contains-append_right low high b (h.all b (newest_down other runs newest (ap not t)) some)

-- ---- parting ascending entries

module _ {X : Type 0} (p : X → Bool) where
  taken : (xs : List X) (n : ℕ) → ((k : ℕ) (d : X) → k < n → p (get_or xs k d) ≡ true) →
      ((k : ℕ) (d : X) → n ≤ k → k < length xs → p (get_or xs k d) ≡ false) → n ≤ length xs → take n xs ≡ filter p xs
  taken [] n first last within = none n
    where
      none : (m : ℕ) → take {A = X} m [] ≡ []
      none zero = refl
      none (suc m) = refl
  taken (x ∷ xs) zero first last within =
      taken xs zero (λ k d lt. absurd (omega (arith, lt))) (λ k d le lt. last (suc k) d (omega arith) (omega (arith, lt))) (omega arith)
      ∙ ap (λ t. cond t (x ∷ filter p xs) (filter p xs)) (sym (last zero x (omega arith) (omega arith)))
  taken (x ∷ xs) (suc n) first last within =
      ap (λ ys. x ∷ ys)
      (taken xs n (λ k d lt. first (suc k) d (omega (arith, lt))) (λ k d le lt. last (suc k) d (omega (arith, le)) (omega (arith, lt))) (omega (arith, within)))
      ∙ ap (λ t. cond t (x ∷ filter p xs) (filter p xs)) (sym (first zero x (omega arith)))

  left : (xs : List X) (n : ℕ) → ((k : ℕ) (d : X) → k < n → p (get_or xs k d) ≡ true) →
      ((k : ℕ) (d : X) → n ≤ k → k < length xs → p (get_or xs k d) ≡ false) → n ≤ length xs →
      drop n xs ≡ filter (λ x. not (p x)) xs
  left [] n first last within = none n
    where
      none : (m : ℕ) → drop {A = X} m [] ≡ []
      none zero = refl
      none (suc m) = refl
  left (x ∷ xs) zero first last within =
      ap (λ ys. x ∷ ys)
      (left xs zero (λ k d lt. absurd (omega (arith, lt))) (λ k d le lt. last (suc k) d (omega arith) (omega (arith, lt))) (omega arith))
      ∙ ap (λ t. cond (not t) (x ∷ filter (λ y. not (p y)) xs) (filter (λ y. not (p y)) xs)) (sym (last zero x (omega arith) (omega arith)))
  left (x ∷ xs) (suc n) first last within =
      left xs n (λ k d lt. first (suc k) d (omega (arith, lt))) (λ k d le lt. last (suc k) d (omega (arith, le)) (omega (arith, lt))) (omega (arith, within))
      ∙ ap (λ t. cond (not t) (x ∷ filter (λ y. not (p y)) xs) (filter (λ y. not (p y)) xs)) (sym (first zero x (omega arith)))

-- ascending entries are parted at an identifier
module _ (entries : List EntryValue) (rising : RisesById entries) (id : ShardId) where
  abbrev before : EntryValue → Bool
  before e = is_before id e.id

  -- Of ascending entries, those before an identifier come first.
  pub are_parted : IsPartitionedBy before entries
  are_parted i j d le under later =
      go (id_cmp (get_or entries i d).id id) (id_cmp (get_or entries j d).id id) (ascends i j d le under) later
    where
      sorted : IsSortedBy (λ x y. is_lt (id_cmp x.id y.id)) entries
      sorted k e low high =
          ap is_lt
          (id_cmp_total.antisymm (get_or entries (k + 1) e).id (get_or entries k e).id
          ∙ ap ordering_reverse (rising k (k + 1) e (omega arith) high))

      ascends : IsNonDecreasingBy (λ y. ordering_index (id_cmp y.id id)) entries
      ascends = searchable_from_sorted id_cmp_total (λ (y : EntryValue). y.id) entries id sorted

      go : (a b : Ordering) → ordering_index a ≤ ordering_index b → is_lt b ≡ true → is_lt a ≡ true
      go Less b le h = refl
      go Equal Less le h = absurd (omega (arith, le))
      go Equal Equal le h = h
      go Equal Greater le h = h
      go Greater Less le h = absurd (omega (arith, le))
      go Greater Equal le h = absurd (omega (arith, le))
      go Greater Greater le h = h

  module _ (n : ℕ) (point : IsPartitionPoint (λ y. before y ≡ true) (λ y. before y ≡ false) entries n) (within : n ≤ length entries) where
    -- The entries up to the partition point are those before the identifier.
    pub first_part : take n entries ≡ filter before entries
    first_part = taken before entries n (λ k d lt. point.0 k d (omega arith) lt) (λ k d le lt. point.1 k d le lt) within

    -- The entries from the partition point on are those that aren't before the identifier.
    pub last_part : drop n entries ≡ filter (λ e. not (before e)) entries
    last_part = left before entries n (λ k d lt. point.0 k d (omega arith) lt) (λ k d le lt. point.1 k d le lt) within

-- entries that pass a test are those of a run
pub AreEntries-kept : (p : EntryValue → Bool) (entries : List EntryValue) → AreEntries entries → AreEntries (filter p entries)
AreEntries-kept p entries are = record {
  count = omega (arith, are.count, fewer);
  each = All-filter p IsEntry entries are.each;
  rising = AllPairs-filter (λ e f. IsBelow e.id f.id) p entries are.rising;
}
  where
    fewer : length (filter p entries) ≤ length entries
    fewer = omega (arith, length-filter_both p (λ e. not (p e)) (λ e. refl) entries)
