-- How many elements pass a test, and sums over them.
use Rattle.std.proofs.Common.{[], All, ap, arith, Bool, cond, false, get_or, inl, inr, length, length-drop, List, map, nat_lt, refl, remove, suc, sum_by, sym, take, true, zero, ℕ, ◌+◌, ◌-◌, ◌<◌, ◌==◌, ◌||◌, ◌∙◌, ◌∷◌, ◌≡◌, ◌≤◌}
use Rattle.std.specs.List.{AllPairs, Contains, count_by, filter, list_any, sum_by}
use Rattle.std.specs.List.Sorted.{IsPermutation, IsStrictlyIncreasing}
use Rattle.std.proofs.lemmas.Bool.{cases_lt, lt-ltb, or_right}
use Rattle.std.proofs.lemmas.Bool.Decides.{nat_tests}
use Rattle.std.proofs.lemmas.List.{length-take-le, nil_from_length}
use Rattle.std.proofs.lemmas.List.Kept.{AllPairs-from_increasing}
use Rattle.std.proofs.lemmas.List.Sorted.{IsPermutation-cons, IsPermutation-refl, IsPermutation-remove, IsPermutation-trans, sum_by-IsPermutation}
use Rattle.std.proofs.lemmas.List.Sums.{get_or-le-sum_by, length-filter, sum_by-cons}
use Rattle.list_facts.proofs.Filters.{filter_between, filter_none}

-- an element in front that passes adds one
pub count_in : {X : Type 0} (p : X → Bool) (x : X) (xs : List X) → p x ≡ true → count_by p (x ∷ xs) ≡ 1 + count_by p xs
count_in p x xs e = sum_by-cons (λ y. cond (p y) 1 0) x xs ∙ ap (λ b. cond b 1 0 + count_by p xs) e

-- one that fails adds none
pub count_out : {X : Type 0} (p : X → Bool) (x : X) (xs : List X) → p x ≡ false → count_by p (x ∷ xs) ≡ count_by p xs
count_out p x xs e =
    let none : count_by p (x ∷ xs) ≡ 0 + count_by p xs = sum_by-cons (λ y. cond (p y) 1 0) x xs ∙ ap (λ b. cond b 1 0 + count_by p xs) e in
    omega (arith, none)

-- how many pass a test that fails below `low`, holds from there up to `high`, and fails from there on
pub count_between : {X : Type 0} (p : X → Bool) (xs : List X) (low high : ℕ) → low ≤ high → high ≤ length xs →
    ((k : ℕ) (d : X) → k < low → p (get_or xs k d) ≡ false) →
    ((k : ℕ) (d : X) → low ≤ k → k < high → p (get_or xs k d) ≡ true) →
    ((k : ℕ) (d : X) → high ≤ k → k < length xs → p (get_or xs k d) ≡ false) → count_by p xs ≡ high - low
count_between p xs low high le within below inside above =
    sym (length-filter p xs) ∙ ap length (filter_between p xs low high le within below inside above)
    ∙ omega (arith, length-drop low (take high xs), length-take-le high xs within)

-- how many pass a test, over what is mapped
pub count_map : {X Y : Type 0} (p : Y → Bool) (f : X → Y) (xs : List X) → count_by p (map f xs) ≡ count_by (λ x. p (f x)) xs
count_map p f [] = refl
count_map p f (x ∷ xs) =
    sum_by-cons (λ y. cond (p y) 1 0) (f x) (map f xs) ∙ ap (λ n. cond (p (f x)) 1 0 + n) (count_map p f xs)
    ∙ sym (sum_by-cons (λ y. cond (p (f y)) 1 0) x xs)

any_counts_more : {X : Type 0} (p : X → Bool) (x : X) (xs : List X) (b : Bool) → p x ≡ b → list_any p xs ≡ nat_lt 0 (count_by p xs) →
    list_any p (x ∷ xs) ≡ nat_lt 0 (count_by p (x ∷ xs))
any_counts_more p x xs true e rest =
    ap (λ b. b || list_any p xs) e ∙ sym (ap (λ n. nat_lt 0 n) (count_in p x xs e) ∙ lt-ltb 0 (1 + count_by p xs) (omega arith))
any_counts_more p x xs false e rest = ap (λ b. b || list_any p xs) e ∙ rest ∙ sym (ap (λ n. nat_lt 0 n) (count_out p x xs e))

-- an element passes exactly if more than none do
pub any_counts : {X : Type 0} (p : X → Bool) (xs : List X) → list_any p xs ≡ nat_lt 0 (count_by p xs)
any_counts p [] = refl
any_counts p (x ∷ xs) = any_counts_more p x xs (p x) refl (any_counts p xs)

-- one element passes if that at place i does
pub any_at : {X : Type 0} (p : X → Bool) (xs : List X) (i : ℕ) → i < length xs → ((d : X) → p (get_or xs i d) ≡ true) →
    list_any p xs ≡ true
any_at p [] i lt h = absurd (omega (arith, lt))
any_at p (x ∷ xs) zero lt h = ap (λ b. b || list_any p xs) (h x)
any_at p (x ∷ xs) (suc i) lt h = or_right (p x) (list_any p xs) (any_at p xs i (omega (arith, lt)) h)

-- what passes a test sums to no more
pub sum_by-filter-le : {X : Type 0} (f : X → ℕ) (p : X → Bool) (xs : List X) → sum_by f (filter p xs) ≤ sum_by f xs
sum_by-filter-le f p [] = omega arith
sum_by-filter-le f p (x ∷ xs) = by (p x) (sum_by-filter-le f p xs)
  where
    by : (b : Bool) → sum_by f (filter p xs) ≤ sum_by f xs →
        sum_by f (cond b (x ∷ filter p xs) (filter p xs)) ≤ sum_by f (x ∷ xs)
    by true less = omega (arith, sum_by-cons f x (filter p xs), sum_by-cons f x xs, less)
    by false less = omega (arith, sum_by-cons f x xs, less)

-- 1 for this number, 0 for any other
abbrev pub one_for : ℕ → ℕ → ℕ
one_for e x = cond (x == e) 1 0

-- 1 for the number itself
pub one_for-same : (e x : ℕ) → (x == e) ≡ true → one_for e x ≡ 1
one_for-same e x same = ap (λ (b : Bool). let n : ℕ = cond b 1 0 in n) same

one_for-other : (e x : ℕ) → (x == e) ≡ false → one_for e x ≡ 0
one_for-other e x other = ap (λ (b : Bool). let n : ℕ = cond b 1 0 in n) other

-- at least once if it is contained
pub contained_counts : (xs : List ℕ) (e : ℕ) → Contains xs e → 1 ≤ count_by (λ x. x == e) xs
contained_counts xs e there =
    let same : (get_or xs there.0 e == e) ≡ true = grind (arith, nat_tests, there.2) in
    omega (arith, get_or-le-sum_by (one_for e) xs there.0 e there.1, one_for-same e (get_or xs there.0 e) same)

-- contained if it is counted
pub counted_contained : (xs : List ℕ) (e : ℕ) → 1 ≤ count_by (λ x. x == e) xs → Contains xs e
counted_contained [] e some = absurd (omega (arith, some))
counted_contained (x ∷ xs) e some = by (x == e) refl (counted_contained xs e)
  where
    by : (b : Bool) → (x == e) ≡ b → (1 ≤ count_by (λ y. y == e) xs → Contains xs e) → Contains (x ∷ xs) e
    by true is later = let same : x ≡ e = grind (arith, nat_tests) in (0, omega arith, same)
    by false is later =
        let rest = later (omega (arith, some, sum_by-cons (one_for e) x xs, one_for-other e x is)) in
        (suc rest.0, omega (arith, rest.1), rest.2)

-- If no element passes a test, none is counted.
pub count_none : {X : Type 0} (p : X → Bool) (xs : List X) → All (λ x. p x ≡ false) xs → count_by p xs ≡ 0
count_none p xs none = sym (length-filter p xs) ∙ ap length (filter_none p xs none)

-- if no two elements both pass, at most one does
pub once_if_apart : {X : Type 0} (p : X → Bool) (xs : List X) → AllPairs (λ x y. p x ≡ true → p y ≡ false) xs → count_by p xs ≤ 1
once_if_apart p [] apart = omega arith
once_if_apart p (x ∷ xs) apart =
    by (p x) refl (once_if_apart p xs (λ i j d lt here. apart (suc i) (suc j) d (omega (arith, lt)) (omega (arith, here))))
  where
    by : (b : Bool) → p x ≡ b → count_by p xs ≤ 1 → count_by p (x ∷ xs) ≤ 1
    by true is few =
        let none = count_none p xs (λ k d here. apart 0 (suc k) d (omega arith) (omega (arith, here)) is) in
        omega (arith, count_in p x xs is, none)
    by false is few = omega (arith, count_out p x xs is, few)

-- at most once if the numbers ascend
pub rising_once : (xs : List ℕ) (e : ℕ) → IsStrictlyIncreasing xs → count_by (λ x. x == e) xs ≤ 1
rising_once xs e rising =
    once_if_apart (λ x. x == e) xs
    (λ i j d lt here same. let less = AllPairs-from_increasing xs rising i j d lt here in grind (arith, nat_tests))

-- 1 for each number adds up to the length
pub sum_by-one : (xs : List ℕ) → sum_by (λ (x : ℕ). 1) xs ≡ length xs
sum_by-one [] = refl
sum_by-one (x ∷ xs) = omega (arith, sum_by-cons (λ (x : ℕ). 1) x xs, sum_by-one xs)

-- lists with the same sum of any function are permutations of each other
pub permutation_of_sums : (xs ys : List ℕ) → ((f : ℕ → ℕ) → sum_by f xs ≡ sum_by f ys) → IsPermutation xs ys
permutation_of_sums xs [] same = rw (nil_from_length xs (sym (sum_by-one xs) ∙ same (λ x. 1))) (IsPermutation-refl [])
permutation_of_sums xs (y ∷ ys) same =
    let there =
    counted_contained xs y (omega (arith, same (one_for y), contained_counts (y ∷ ys) y (0, omega arith, refl))) in
    let rest = remove xs there.0 in
    let front : IsPermutation xs (y ∷ rest) = IsPermutation-remove xs there.0 y there.1 (sym there.2) in
    IsPermutation-trans xs (y ∷ rest) (y ∷ ys) front
    (IsPermutation-cons y rest ys (permutation_of_sums rest ys (λ f. omega (arith, same f, sum_by-IsPermutation f xs (y ∷ rest) front, sum_by-cons f y rest, sum_by-cons f y ys))))

-- a sum that isn't 0 has a term that isn't 0
pub sum_by-some_term : {X : Type 0} (f : X → ℕ) (xs : List X) (d : X) → 1 ≤ sum_by f xs →
    (k : ℕ) × (k < length xs) × (1 ≤ f (get_or xs k d))
sum_by-some_term f [] d some = absurd (omega (arith, some))
sum_by-some_term f (x ∷ xs) d some = elim (cases_lt 0 (f x)) [
  | inl here ↦ (0, omega arith, omega (arith, here))
  | inr none ↦
      let rest = sum_by-some_term f xs d (omega (arith, some, none, sum_by-cons f x xs)) in
      (suc rest.0, omega (arith, rest.1), rest.2)
]
