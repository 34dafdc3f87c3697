-- Conditions that are decided: each holds or doesn't, and which of the two can be found out.
use Rattle.std.proofs.Common.{[], All, AllPairs, ap, arith, Bool, Contains, false, filter, get_or, inl, inr, IsTrue, length, List, None, Option, refl, Some, subst, suc, sym, true, zero, ℕ, ◌<◌, ◌==◌, ◌∷◌, ◌≡◌, ◌≤◌, ◌⊎◌}
use Rattle.std.specs.Bool.{Decides}
use Rattle.std.specs.Str.{bytes_eq}
use Rattle.std.proofs.lemmas.Bool.{cases_lt, false≢true}
use Rattle.std.proofs.lemmas.Bool.Decides.{Decides-eqb}
use Rattle.std.proofs.lemmas.List.Elements.{All-contains, Contains-get_or}
use Rattle.std.proofs.lemmas.List.Kept.{AllPairs-cons, AllPairs-from_increasing}
use Rattle.std.proofs.lemmas.Option.{none-some, same_Some}
use Rattle.std.proofs.lemmas.Slice.Eq.{bytes_eq-Decides}
use Rattle.std.specs.List.{range_with_len}
use Rattle.list_facts.proofs.Filters.{Contains-filter_range, filter_range-passes, filter_range-rises}

-- the condition holds, or it doesn't
abbrev pub Decided : Type 0 → Type 0
Decided P = P ⊎ (P → ⊥)

-- what holds exactly if the other does is decided, too
pub decided_like : {P Q : Type 0} → Decided P → (P → Q) → (Q → P) → Decided Q
decided_like (inl p) to from = inl (to p)
decided_like (inr n) to from = inr (λ q. n (from q))

-- both conditions hold, or not both
pub decided_both : {P Q : Type 0} → Decided P → Decided Q → Decided (P × Q)
decided_both (inl p) (inl q) = inl (p, q)
decided_both (inl p) (inr n) = inr (λ h. n h.1)
decided_both (inr n) d = inr (λ h. n h.0)

-- the opposite is decided, too
pub decided_not : {P : Type 0} → Decided P → Decided (P → ⊥)
decided_not (inl p) = inr (λ n. n p)
decided_not (inr n) = inl n

-- a test decides what it tells
pub decided_by_test : {P : Type 0} (r : Bool) → Decides r P → Decided P
decided_by_test true d = inl (d.0 refl)
decided_by_test false d = inr (λ p. false≢true (d.1 p))

-- two numbers are equal, or not
pub decided_number : (a b : ℕ) → Decided (a ≡ b)
decided_number a b = decided_by_test (a == b) (Decides-eqb a b)

-- one is below the other, or not
pub decided_less : (a b : ℕ) → Decided (a < b)
decided_less a b = elim (cases_lt a b) [ inl h ↦ inl h | inr h ↦ inr (λ k. omega (arith, h, k)) ]

-- one is at most the other, or not
pub decided_at_most : (a b : ℕ) → Decided (a ≤ b)
decided_at_most a b = elim (cases_lt b a) [ inl h ↦ inr (λ k. omega (arith, h, k)) | inr h ↦ inl h ]

-- two lists of numbers are equal, or not
pub decided_numbers : (xs ys : List ℕ) → Decided (xs ≡ ys)
decided_numbers xs ys = decided_by_test (bytes_eq xs ys) (bytes_eq-Decides xs ys)

-- an optional number is this one, or not
pub decided_some : (o : Option ℕ) (v : ℕ) → Decided (o ≡ Some v)
decided_some None v = inr (λ e. none-some v e)
decided_some (Some u) v = decided_like (decided_number u v) (ap Some) (same_Some u v)

-- An optional number is missing, or it isn't.
pub decided_none : (o : Option ℕ) → Decided (o ≡ None)
decided_none None = inl refl
decided_none (Some v) = inr (λ e. absurd (some_none v e))
  where
    some_none : (a : ℕ) → Some a ≡ None → ⊥
    some_none a e = cc

-- a test is true, or not
pub decided_true : (b : Bool) → Decided (IsTrue b)
decided_true true = inl refl
decided_true false = inr (λ e. false≢true e)

-- the first of those that have it, or none has
pub first_below : (P : ℕ → Type 0) → ((k : ℕ) → Decided (P k)) → (n : ℕ) →
    ((k : ℕ) × (k < n) × P k × ((j : ℕ) → j < k → P j → ⊥)) ⊎ ((k : ℕ) → k < n → P k → ⊥)
first_below P each zero = inr (λ k h p. absurd (omega (arith, h)))
first_below P each (suc n) = by (first_below P each n) (each n)
  where
    by : ((k : ℕ) × (k < n) × P k × ((j : ℕ) → j < k → P j → ⊥)) ⊎ ((k : ℕ) → k < n → P k → ⊥) → Decided (P n) →
        ((k : ℕ) × (k < suc n) × P k × ((j : ℕ) → j < k → P j → ⊥)) ⊎ ((k : ℕ) → k < suc n → P k → ⊥)
    by (inl x) d = inl (x.0, omega (arith, x.1), x.2, x.3)
    by (inr fails) (inl p) = inl (n, omega arith, p, fails)
    by (inr fails) (inr last) = inr (λ k h p. at k h p (cases_lt k n))
      where
        at : (k : ℕ) → k < suc n → P k → (k < n) ⊎ (n ≤ k) → ⊥
        at k h p (inl low) = fails k low p
        at k h p (inr high) = let e : k ≡ n = omega (arith, h, high) in last (rw (sym e) p)

-- one number below n has the property, or none has
pub some_below : (P : ℕ → Type 0) → ((k : ℕ) → Decided (P k)) → (n : ℕ) →
    ((k : ℕ) × (k < n) × P k) ⊎ ((k : ℕ) → k < n → P k → ⊥)
some_below P each n = elim (first_below P each n) [ inl x ↦ inl (x.0, x.1, x.2) | inr none ↦ inr none ]

-- all numbers below n have it, or not all
pub decided_below : (P : ℕ → Type 0) → ((k : ℕ) → Decided (P k)) → (n : ℕ) → Decided ((k : ℕ) → k < n → P k)
decided_below P each n = elim (some_below (λ k. P k → ⊥) (λ k. decided_not (each k)) n) [
  | inl fails ↦ inr (λ all. fails.2 (all fails.0 fails.1))
  | inr none ↦ inl (λ k h. elim (each k) [ inl p ↦ p | inr fails ↦ absurd (none k h fails) ])
]

-- ---- elements of a list

-- one element has the property, or none has
pub some_element : {X : Type 0} (P : X → Type 0) → ((x : X) → Decided (P x)) → (xs : List X) →
    ((x : X) × Contains xs x × P x) ⊎ ((x : X) → Contains xs x → P x → ⊥)
some_element P each [] = inr (λ x there p. absurd (omega (arith, there.1)))
some_element {X} P each (y ∷ ys) = by (each y) (some_element P each ys)
  where
    by : Decided (P y) → ((x : X) × Contains ys x × P x) ⊎ ((x : X) → Contains ys x → P x → ⊥) →
        ((x : X) × Contains (y ∷ ys) x × P x) ⊎ ((x : X) → Contains (y ∷ ys) x → P x → ⊥)
    by (inl p) rest = inl (y, (0, omega arith, refl), p)
    by (inr fails) (inl (x, there, p)) = inl (x, (suc there.0, omega (arith, there.1), there.2), p)
    by (inr fails) (inr none) = inr (λ x there p. at x p there.0 there.1 there.2)
      where
        at : (x : X) → P x → (k : ℕ) → k < length (y ∷ ys) → get_or (y ∷ ys) k x ≡ x → ⊥
        at x p zero here is = fails (rw is p)
        at x p (suc k) here is = none x (k, omega (arith, here), is) p

-- all elements have it, or not all
pub decided_all : {X : Type 0} (P : X → Type 0) → ((x : X) → Decided (P x)) → (xs : List X) → Decided (All P xs)
decided_all P each xs = elim (some_element (λ x. P x → ⊥) (λ x. decided_not (each x)) xs) [
  | inl fails ↦ inr (λ all. fails.2 (All-contains P xs fails.0 all fails.1))
  | inr none ↦ inl (λ k d here. elim (each (get_or xs k d)) [
    | inl p ↦ p
    | inr fails ↦ absurd (none (get_or xs k d) (Contains-get_or xs k d here) fails)
  ])
]

-- so have all pairs of elements, or not all
pub decided_pairs : {X : Type 0} (R : X → X → Type 0) → ((x y : X) → Decided (R x y)) → (xs : List X) →
    Decided (AllPairs R xs)
decided_pairs R each [] = inl (λ i j d lt here. absurd (omega (arith, here)))
decided_pairs R each (x ∷ xs) = by (decided_all (R x) (each x) xs) (decided_pairs R each xs)
  where
    by : Decided (All (R x) xs) → Decided (AllPairs R xs) → Decided (AllPairs R (x ∷ xs))
    by (inl p) (inl ps) = inl (AllPairs-cons R x xs p ps)
    by (inl p) (inr fails) =
        inr (λ all. fails (λ i j d lt here. all (suc i) (suc j) d (omega (arith, lt)) (omega (arith, here))))
    by (inr fails) d = inr (λ all. fails (λ k d here. all 0 (suc k) d (omega arith) (omega (arith, here))))

-- an element is in a list, or not
pub decided_contains : {X : Type 0} → ((x y : X) → Decided (x ≡ y)) → (xs : List X) (x : X) → Decided (Contains xs x)
decided_contains same xs x = elim (some_element (λ y. y ≡ x) (λ y. same y x) xs) [
  | inl there ↦ inl (subst (Contains xs) there.2 there.1)
  | inr none ↦ inr (λ there. none x there refl)
]

-- ---- all that have a property

-- the test that tells what was decided
pub test_of : {P : Type 0} → Decided P → Bool
test_of (inl p) = true
test_of (inr none) = false

-- it passes what holds
pub test_of-passes : {P : Type 0} (d : Decided P) → P → test_of d ≡ true
unfolding test_of
test_of-passes (inl p) q = refl
test_of-passes (inr none) q = absurd (none q)

-- and what it passes holds
pub test_of-holds : {P : Type 0} (d : Decided P) → test_of d ≡ true → P
unfolding test_of
test_of-holds (inl p) is = p
test_of-holds (inr none) is = absurd (false≢true is)

-- the numbers below n with a property, ascending
pub record AreThoseBelow (P : ℕ → Type 0) (n : ℕ) (qs : List ℕ) : Type 0 where
  pub rising : AllPairs (λ a b. a < b) qs
  pub each : (q : ℕ) → Contains qs q → (q < n) × P q
  pub all : (q : ℕ) → q < n → P q → Contains qs q

-- they are there
pub those_below : (P : ℕ → Type 0) → ((q : ℕ) → Decided (P q)) → (n : ℕ) → (qs : List ℕ) × AreThoseBelow P n qs
those_below P decided n =
    let p : ℕ → Bool = λ q. test_of (decided q) in (
      filter p (range_with_len 0 n),
      record {
        rising = AllPairs-from_increasing (filter p (range_with_len 0 n)) (filter_range-rises p 0 n);
        each = λ q there.
            let is = filter_range-passes p 0 n q there in (omega (arith, is.1), test_of-holds (decided q) is.2);
        all = λ q low has.
            Contains-filter_range p 0 n q (omega arith) (omega (arith, low)) (test_of-passes (decided q) has);
      },
    )
