-- Heaps of the first entries of runs: one more is pushed, the first is taken out, and what the first says.
use Rattle.std.proofs.Common.{◌≡◌, ◌+◌, ◌<◌, ◌⊎◌, ℕ, zero, suc, Bool, true, false, cond, Option, Some, None, List, [], ◌∷◌, length, get_or, All, Contains, arith, refl, sym, ◌∙◌, ap, subst, inl, inr}
use Rattle.std.specs.Prelude.{IsPermutation, ◌==◌}
use Rattle.std.specs.BinaryHeap.{IsHeap, IsUpperBound, KeepsHeap}
use Rattle.std.specs.Cmp.{nat_cmp_is}
use Rattle.std.specs.List.{cons_option}
use Rattle.std.specs.Option.{option_map}
use Rattle.std.specs.Ordering.{nat_cmp, is_lt, is_eq}
use Rattle.std.specs.declared.cmp.Ordering.TheVariants.{Less, Equal}
use Rattle.std.proofs.lemmas.Bool.{cases_eq, cases_lt, false≢true, eq-eqb, ne_eqb}
use Rattle.std.proofs.lemmas.Cmp.{tied_itself}
use Rattle.std.proofs.lemmas.List.{get_or_default}
use Rattle.std.proofs.lemmas.List.Elements.{All-cons, All-tail, All-contains, All-from_recursion}
use Rattle.std.proofs.lemmas.List.Sorted.{All-permutation, Contains-permutation, IsPermutation-sym, sum_by-IsPermutation, sum_by_popped}
use Rattle.std.proofs.lemmas.List.Sums.{sum_by-cons}
use Rattle.std.proofs.lemmas.Option.{none-some, same_Some}
use Rattle.list_facts.proofs.Elements.{Contains-behind, Contains-cases}
use Rattle.scrub_run.specs.declared.shard_id.ShardId.{ShardId}
use Rattle.scrub_run.specs.Entry.{EntryValue, IsBelow}
use Rattle.scrub_merge.specs.Binding.{Runs}
use Rattle.scrub_merge.specs.steps.Cursors.{id_cmp, entry_at, ahead, first_of, Under, under_by, under_cmp, StandsFirst, of_run, IsHeapOver, IsHeapOf, IsHeapBut, IsLeast, IsFirstWith, AreEmpty}
use Rattle.scrub_merge.proofs.Left.{first_at}
use Rattle.scrub_merge.proofs.Moves.{one_on, first_elsewhere, first_moved}
use Rattle.scrub_merge.proofs.Identifiers.{id_cmp_total, same_id, not_less}

-- ---- what is of one run

abbrev one_if : Bool → ℕ
one_if t = cond t 1 0

-- one more is counted for the run with this number, if it is of that run
counted : (k : ℕ) (x : Under) (xs : List Under) → of_run k (x ∷ xs) ≡ one_if (x.0.1 == k) + of_run k xs
counted k x xs = sum_by-cons (λ (u : Under). one_if (u.0.1 == k)) x xs

same_count : (k : ℕ) (xs ys : List Under) → IsPermutation xs ys → of_run k ys ≡ of_run k xs
same_count k xs ys = sum_by-IsPermutation (λ (u : Under). one_if (u.0.1 == k)) xs ys

none_counted : (k : ℕ) (xs : List Under) → All (λ u. u.0.1 ≡ k → ⊥) xs → of_run k xs ≡ 0
none_counted k [] none = refl
none_counted k (x ∷ xs) none =
    omega (
      arith,
      counted k x xs,
      ap one_if (ne_eqb x.0.1 k (none 0 x (omega arith))),
      none_counted k xs (λ j d here. none (suc j) d (omega (arith, here))),
    )

not_counted : (k : ℕ) (xs : List Under) → of_run k xs ≡ 0 → All (λ u. u.0.1 ≡ k → ⊥) xs
not_counted k [] h j d here same = omega (arith, here)
not_counted k (x ∷ xs) h zero d here same = omega (arith, counted k x xs, ap one_if (eq-eqb x.0.1 k same), h)
not_counted k (x ∷ xs) h (suc j) d here same =
    not_counted k xs (omega (arith, counted k x xs, h)) j d (omega (arith, here)) same

-- ---- one more is pushed

-- the first entry of one more run is pushed, if there is one
pub pushed : {runs : Runs} {Were Are : ℕ → Type 0} (number : ℕ) {items new : List Under} → IsHeapOver Were runs items →
    (Were number → ⊥) → ((k : ℕ) → Are k → (Were k) ⊎ (k ≡ number)) →
    ((k : ℕ) → Were k → Are k) → Are number →
    IsPermutation (cons_option (option_map (under_by number) (first_of runs number)) items) new →
    KeepsHeap under_cmp items new → IsHeapOver Are runs new
pushed {runs} {Were} {Are} number {items} {new} h apart now kept is moved keeps = by (first_of runs number) refl moved
  where
    Fits : Under → Type 0
    Fits u = Are u.0.1 × StandsFirst runs u

    still : All Fits items
    still k d here = let one = h.each k d here in (kept _ one.0, one.1)

    by : (o : Option EntryValue) → first_of runs number ≡ o →
        IsPermutation (cons_option (option_map (under_by number) o) items) new → IsHeapOver Are runs new
    by None at p = record {
      order = keeps h.order;
      each = All-permutation Fits items new p still;
      all = λ k e among first. elim (now k among) [
        | inl was ↦ Contains-permutation items new (under_by k e) p (h.all k e was first)
        | inr same ↦ absurd (none-some e (rw (same, at) at first))
      ];
      once = λ k. rw (same_count k items new p) (h.once k);
    }
    by (Some e) at p = record {
      order = keeps h.order;
      each =
          All-permutation Fits (under_by number e ∷ items) new p
          (All-cons Fits (under_by number e) items (is, ap (option_map (under_by number)) at) still);
      all = λ k f among first. Contains-permutation (under_by number e ∷ items) new (under_by k f) p (elim (now k among) [
        | inl was ↦ Contains-behind (under_by number e) items (under_by k f) (h.all k f was first)
        | inr same ↦ (zero, omega arith, let entry : e ≡ f = cc (at, same, first) in rw (same, entry))
      ]);
      once = λ k.
          let sum : of_run k new ≡ one_if (number == k) + of_run k items =
          same_count k (under_by number e ∷ items) new p ∙ counted k (under_by number e) items in
          elim (cases_eq number k) [
            | inl same ↦
                let none : of_run k items ≡ 0 =
                none_counted k items (λ j d here own. apart (subst Were (own ∙ sym same) (h.each j d here).0)) in
                omega (arith, rw (eq-eqb number k same) at sum, none)
            | inr other ↦ omega (arith, rw (ne_eqb number k other) at sum, h.once k)
          ];
    }

-- ---- the first is taken out

-- the heap that is left is one but for the run of that entry
pub popped : {runs : Runs} {x : Under} {items new : List Under} →
    IsHeapOf runs items → IsPermutation items (x ∷ new) → IsHeap under_cmp new → IsHeapBut x.0.1 runs new
popped {runs} {x} {items} {new} h p order = record {
  order = order;
  each = λ k d here. (others k d here, (rest k d here).1);
  all = λ k e among first.
      let there : Contains (x ∷ new) (under_by k e) =
      Contains-permutation items (x ∷ new) (under_by k e) p (h.all k e tt first) in
      elim (Contains-cases x new (under_by k e) there) [ inl is ↦ absurd (among (rw is)) | inr later ↦ later ];
  once = λ k. omega (arith, left_over k, h.once k);
}
  where
    left_over : (k : ℕ) → of_run k new + one_if (x.0.1 == k) ≡ of_run k items
    left_over k = sum_by_popped (λ (u : Under). one_if (u.0.1 == k)) x items new p

    Stands : Under → Type 0
    Stands u = Unit {0} × StandsFirst runs u

    rest : All Stands new
    rest = All-tail Stands x new (All-permutation Stands items (x ∷ new) p h.each)

    others : All (λ u. u.0.1 ≡ x.0.1 → ⊥) new
    others =
        not_counted x.0.1 new
        (omega (arith, rw (eq-eqb x.0.1 x.0.1 refl) at (left_over x.0.1), h.once x.0.1))

-- only the other runs count
pub heap_but_one_kept : {runs after : Runs} (number : ℕ) {items : List Under} →
    ((k : ℕ) → (k ≡ number → ⊥) → first_of after k ≡ first_of runs k) → IsHeapBut number runs items →
    IsHeapBut number after items
heap_but_one_kept number {items} same h = record {
  order = h.order;
  each = λ k d here. let one = h.each k d here in (one.0, rw (same (get_or items k d).0.1 one.0) one.1);
  all = λ k e among first. h.all k e among (sym (same k among) ∙ first);
  once = h.once;
}

-- ---- what the first says

-- what is in the heap is first in its run: an entry with its identifier
pub in_heap : {runs : Runs} {items : List Under} (u : Under) → IsHeapOf runs items → Contains items u →
    (e : EntryValue) × (first_of runs u.0.1 ≡ Some e) × (e.id ≡ u.0.0)
in_heap {runs} {items} u h among =
    by (first_of runs u.0.1) refl (All-contains (λ v. Unit {0} × StandsFirst runs v) items u h.each among).1
  where
    by : (o : Option EntryValue) → first_of runs u.0.1 ≡ o → option_map (under_by u.0.1) o ≡ Some u →
        (e : EntryValue) × (first_of runs u.0.1 ≡ Some e) × (e.id ≡ u.0.0)
    by None at same = cc
    by (Some e) at same = (e, at, ap (λ (v : Under). v.0.0) (same_Some (under_by u.0.1 e) u same))

-- what is taken out was first in its run
pub taken : {runs : Runs} {items new : List Under} {u : Under} → IsHeapOf runs items → IsPermutation items (u ∷ new) →
    (e : EntryValue) × (first_of runs u.0.1 ≡ Some e) × (e.id ≡ u.0.0)
taken {items = items} {new = new} {u = u} h p =
    in_heap u h (Contains-permutation (u ∷ new) items u (IsPermutation-sym items (u ∷ new) p) (zero, omega arith, refl))

not_lesser : (u v : Under) → is_lt (under_cmp u v) ≡ false → IsBelow v.0.0 u.0.0 → ⊥
not_lesser u v bound below = false≢true (sym (rw below at bound))

not_newer : (u v : Under) → is_lt (under_cmp u v) ≡ false → v.0.0 ≡ u.0.0 → v.0.1 < u.0.1 → ⊥
not_newer u v bound same before = false≢true (sym (rw (tied, less) at bound))
  where
    tied : id_cmp v.0.0 u.0.0 ≡ Equal
    tied = rw same (tied_itself id_cmp_total u.0.0)

    less : nat_cmp v.0.1 u.0.1 ≡ Less
    less = sym (nat_cmp_is v.0.1 u.0.1 Less before)

module _ {runs : Runs} {items : List Under} (u : Under) (h : IsHeapOf runs items) (among : Contains items u)
    (bound : IsUpperBound under_cmp u items) where
  above_all : (k : ℕ) (e : EntryValue) → first_of runs k ≡ Some e → is_lt (under_cmp u (under_by k e)) ≡ false
  above_all k e at =
      All-contains (λ w. is_lt (under_cmp u w) ≡ false) items (under_by k e)
      (All-from_recursion (λ w. is_lt (under_cmp u w) ≡ false) items bound) (h.all k e tt at)

  -- The identifier of the greatest in the heap is the least that is first in any run.
  pub first_least : IsLeast runs u.0.0
  first_least = let own = in_heap u h among in record {
    number = u.0.1;
    entry = own.0;
    stands = own.1;
    own = own.2;
    least = λ k e at below. not_lesser u (under_by k e) (above_all k e at) below;
  }

  -- The run of the greatest in the heap is the newest in which that identifier is first.
  pub first_newest : IsFirstWith runs u.0.0 u.0.1
  first_newest = let own = in_heap u h among in record {
    entry = own.0;
    stands = own.1;
    own = own.2;
    newest = λ k e before at same. not_newer u (under_by k e) (above_all k e at) same before;
  }

-- if the first has another identifier than one that none is below, all have
pub others_all : (items : List Under) {id : ShardId} (u : Under) → Contains items u → IsUpperBound under_cmp u items →
    All (λ v. IsBelow v.0.0 id → ⊥) items → is_eq (id_cmp u.0.0 id) ≡ false →
    All (λ v. v.0.0 ≡ id → ⊥) items
others_all items {id} u among bound least other k d here same =
    not_lesser u (get_or items k d) (All-from_recursion (λ w. is_lt (under_cmp u w) ≡ false) items bound k d here)
    (rw same (not_less u.0.0 id other (All-contains (λ v. IsBelow v.0.0 id → ⊥) items u least among)))

-- the first that peek sees is the one that pop takes out
pub first_own : (items : List Under) {x u : Under} (id : ShardId) → 0 < length items → x ≡ get_or items 0 x →
    u ≡ get_or items 0 u → is_eq (id_cmp u.0.0 id) ≡ true → x.0.0 ≡ id
first_own items {x} {u} id here is was tied = rw (is ∙ get_or_default items 0 x u here ∙ sym was) (same_id u.0.0 id tied)

-- if the heap is empty, no run has a first entry
pub none_first : {runs : Runs} {items : List Under} → IsHeapOf runs items → length items ≡ 0 → AreEmpty runs
none_first {runs} h none k = by (first_of runs k) refl
  where
    by : (o : Option EntryValue) → first_of runs k ≡ o → o ≡ None
    by None at = refl
    by (Some e) at = absurd (omega (arith, (h.all k e tt at).1, none))

-- at the start the heap is empty
pub empty_heap : (runs : Runs) {items : List Under} → items ≡ [] → IsHeap under_cmp items →
    IsHeapOver (λ k. k < 0) runs items
empty_heap runs is order = record {
  order = order;
  each = λ k d here. absurd (omega (arith, here, ap length is));
  all = λ k e among first. absurd (omega (arith, among));
  once = λ k. rw is (omega arith);
}

-- a heap over all runs with a first entry is a heap of the runs
pub over_all : {runs : Runs} {Are : ℕ → Type 0} {items : List Under} →
    ((k : ℕ) (e : EntryValue) → first_of runs k ≡ Some e → Are k) → IsHeapOver Are runs items → IsHeapOf runs items
over_all all h = record {
  order = h.order;
  each = λ k d here. (tt, (h.each k d here).1);
  all = λ k e among first. h.all k e (all k e first) first;
  once = h.once;
}

-- a heap without the entry of one run, then with the entry that its cursor moved on to
pub pushed_on : (runs : Runs) (places : List ℕ) (number : ℕ) {run : Option (List EntryValue)} {items new : List Under} →
    length places ≡ length runs → number < length runs → run ≡ get_or runs number run →
    IsHeapBut number (ahead runs places) items →
    IsPermutation (cons_option (option_map (under_by number) (entry_at run (get_or places number 0 + 1))) items) new →
    KeepsHeap under_cmp items new →
    IsHeapOf (ahead runs (one_on places number)) new
pushed_on runs places number count here is h p keeps =
    pushed number (heap_but_one_kept number (first_elsewhere runs places number (get_or places number 0 + 1) count) h)
    (λ other. other refl) (λ k are. elim (cases_eq k number) [ inl same ↦ inr same | inr other ↦ inl other ])
    (λ k other. tt) tt
    (rw (first_moved runs places number (get_or places number 0 + 1) count here is) p) keeps

-- the heap of the runs so far, with the first entry of the next one
pub pushed_next : (runs : Runs) (number : ℕ) (run : Option (List EntryValue)) {items new : List Under} →
    number < length runs → run ≡ get_or runs number run → IsHeapOver (λ k. k < number) runs items →
    IsPermutation (cons_option (option_map (under_by number) (entry_at run 0)) items) new →
    KeepsHeap under_cmp items new → IsHeapOver (λ k. k < number + 1) runs new
pushed_next runs number run here is h p keeps =
    pushed number h (λ no. omega (arith, no)) earlier (λ k before. omega (arith, before)) (omega arith)
    (rw (first_at runs number run here is) p) keeps
  where
    earlier : (k : ℕ) → k < number + 1 → (k < number) ⊎ (k ≡ number)
    earlier k before =
        elim (cases_lt k number) [ inl h ↦ inl h | inr not_before ↦ inr (omega (arith, before, not_before)) ]
