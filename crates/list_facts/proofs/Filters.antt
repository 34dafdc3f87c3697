-- Filters of lists and of ranges of numbers.
use Rattle.std.proofs.Common.{[], All, ap, arith, Bool, cond, drop, false, filter, get_or, length, List, map, refl, suc, sym, take, true, zero, ℕ, ◌&&◌, ◌++◌, ◌+◌, ◌-◌, ◌<◌, ◌∙◌, ◌∷◌, ◌≡◌, ◌≤◌}
use Rattle.std.specs.List.{All, Contains, filter, list_any, range_with_len}
use Rattle.std.specs.List.Sorted.{IsStrictlyIncreasing}
use Rattle.std.proofs.lemmas.Bool.{and_right}
use Rattle.std.proofs.lemmas.List.{append-nil, map-id}
use Rattle.std.proofs.lemmas.List.Elements.{All-contains, All-filter, All-head, All-tail, filter_agree, filter_passes}
use Rattle.std.proofs.lemmas.List.FromFn.{filter_of_map_range_with_len_more, get_or-range_with_len, length-range_with_len}
use Rattle.std.proofs.lemmas.List.Kept.{IsStrictlyIncreasing-filter}
use Rattle.list_facts.proofs.Elements.{Contains-filter}
use Rattle.std.proofs.lemmas.List.Folds.{list_any_at}

-- an element in front that passes is kept
pub filter_in : {X : Type 0} (p : X → Bool) (x : X) (xs : List X) → p x ≡ true → filter p (x ∷ xs) ≡ x ∷ filter p xs
filter_in p x xs e = ap (λ b. cond b (x ∷ filter p xs) (filter p xs)) e

-- one that fails is dropped
pub filter_out : {X : Type 0} (p : X → Bool) (x : X) (xs : List X) → p x ≡ false → filter p (x ∷ xs) ≡ filter p xs
filter_out p x xs e = ap (λ b. cond b (x ∷ filter p xs) (filter p xs)) e

-- the filter of a test that fails below `low`, holds from there up to `high`, and fails from there on
pub filter_between : {X : Type 0} (p : X → Bool) (xs : List X) (low high : ℕ) → low ≤ high → high ≤ length xs →
    ((k : ℕ) (d : X) → k < low → p (get_or xs k d) ≡ false) →
    ((k : ℕ) (d : X) → low ≤ k → k < high → p (get_or xs k d) ≡ true) →
    ((k : ℕ) (d : X) → high ≤ k → k < length xs → p (get_or xs k d) ≡ false) → filter p xs ≡ drop low (take high xs)
filter_between p [] zero zero le within below inside above = refl
filter_between p [] zero (suc high) le within below inside above = absurd (omega (arith, within))
filter_between p [] (suc low) zero le within below inside above = absurd (omega (arith, le))
filter_between p [] (suc low) (suc high) le within below inside above = absurd (omega (arith, within))
filter_between p (x ∷ xs) zero zero le within below inside above =
    filter_out p x xs (above 0 x (omega arith) (omega arith))
    ∙ filter_between p xs 0 0 (omega arith) (omega arith) (λ k d lt. absurd (omega (arith, lt)))
    (λ k d a lt. absurd (omega (arith, lt))) (λ k d a lt. above (suc k) d (omega arith) (omega (arith, lt)))
filter_between p (x ∷ xs) zero (suc high) le within below inside above =
    filter_in p x xs (inside 0 x (omega arith) (omega arith))
    ∙ ap (λ ys. x ∷ ys)
    (filter_between p xs 0 high (omega arith) (omega (arith, within)) (λ k d lt. absurd (omega (arith, lt))) (λ k d a lt. inside (suc k) d (omega arith) (omega (arith, lt))) (λ k d a lt. above (suc k) d (omega (arith, a)) (omega (arith, lt))))
filter_between p (x ∷ xs) (suc low) zero le within below inside above = absurd (omega (arith, le))
filter_between p (x ∷ xs) (suc low) (suc high) le within below inside above =
    filter_out p x xs (below 0 x (omega arith))
    ∙ filter_between p xs low high (omega (arith, le)) (omega (arith, within))
    (λ k d lt. below (suc k) d (omega (arith, lt)))
    (λ k d a lt. inside (suc k) d (omega (arith, a)) (omega (arith, lt)))
    (λ k d a lt. above (suc k) d (omega (arith, a)) (omega (arith, lt)))

-- filtering and mapping commute
pub filter_mapped : {X Y : Type 0} (p : Y → Bool) (f : X → Y) (xs : List X) →
    map f (filter (λ z. p (f z)) xs) ≡ filter p (map f xs)
filter_mapped p f [] = refl
filter_mapped {X} {Y} p f (x ∷ xs) = by (p (f x)) (filter (λ z. p (f z)) xs) (filter p (map f xs)) (filter_mapped p f xs)
  where
    by : (b : Bool) (ys : List X) (zs : List Y) → map f ys ≡ zs → map f (cond b (x ∷ ys) ys) ≡ cond b (f x ∷ zs) zs
    by true ys zs rest = ap (λ (l : List Y). f x ∷ l) rest
    by false ys zs rest = rest

-- two filters are one, by both tests
pub filter-filter : {X : Type 0} (p q : X → Bool) (xs : List X) → filter p (filter q xs) ≡ filter (λ x. q x && p x) xs
filter-filter p q [] = refl
filter-filter {X} p q (x ∷ xs) = by (q x) (filter q xs) (filter (λ z. q z && p z) xs) (filter-filter p q xs)
  where
    by : (b : Bool) (ys zs : List X) → filter p ys ≡ zs → filter p (cond b (x ∷ ys) ys) ≡ cond (b && p x) (x ∷ zs) zs
    by true ys zs rest = ap (λ (l : List X). cond (p x) (x ∷ l) l) rest
    by false ys zs rest = rest

-- a filter after a weaker one
pub filter_of_weaker : {X : Type 0} (p q : X → Bool) (xs : List X) → ((x : X) → p x ≡ true → q x ≡ true) → filter p (filter q xs) ≡ filter p xs
filter_of_weaker p q xs weaker = filter-filter p q xs ∙ filter_agree (λ x. q x && p x) p (λ x. same (p x) (q x) (weaker x)) xs
  where
    same : (a b : Bool) → (a ≡ true → b ≡ true) → (b && a) ≡ a
    same true b so = rw (so refl) refl
    same false b so = and_right b false refl

-- an element that two tests let through
pub list_any-filter : {X : Type 0} (t q : X → Bool) (xs : List X) (i : ℕ) (x : X) → i < length xs → get_or xs i x ≡ x → q x ≡ true → t x ≡ true →
    list_any t (filter q xs) ≡ true
list_any-filter t q xs i x lt is hq ht =
    let there = Contains-filter q xs x hq (i, lt, is) in list_any_at t (filter q xs) there.0 x there.1 (ap t there.2 ∙ ht)

-- two filters, in either order
pub filter_comm : {X : Type 0} (p q : X → Bool) (xs : List X) → filter p (filter q xs) ≡ filter q (filter p xs)
filter_comm p q xs =
    filter-filter p q xs ∙ filter_agree (λ x. q x && p x) (λ x. p x && q x) (λ x. swapped (q x) (p x)) xs ∙ sym (filter-filter q p xs)
  where
    swapped : (a b : Bool) → (a && b) ≡ (b && a)
    swapped true true = refl
    swapped true false = refl
    swapped false true = refl
    swapped false false = refl

-- if all pass, all are kept
pub filter_all : {X : Type 0} (p : X → Bool) (xs : List X) → All (λ x. p x ≡ true) xs → filter p xs ≡ xs
filter_all p [] all = refl
filter_all {X} p (x ∷ xs) all =
    ap (λ b. cond b (x ∷ filter p xs) (filter p xs)) (All-head (λ y. p y ≡ true) x xs all)
    ∙ ap (λ (ys : List X). x ∷ ys) (filter_all p xs (All-tail (λ y. p y ≡ true) x xs all))

-- if all fail, none is kept
pub filter_none : {X : Type 0} (p : X → Bool) (xs : List X) → All (λ x. p x ≡ false) xs → filter p xs ≡ []
filter_none p [] none = refl
filter_none {X} p (x ∷ xs) none =
    ap (λ b. cond b (x ∷ filter p xs) (filter p xs)) (All-head (λ y. p y ≡ false) x xs none)
    ∙ filter_none p xs (All-tail (λ y. p y ≡ false) x xs none)

filter_range-more : (p : ℕ → Bool) (n : ℕ) →
    filter p (range_with_len 0 (n + 1)) ≡ filter p (range_with_len 0 n) ++ cond (p n) (n ∷ []) []
filter_range-more p n =
    ap (filter p) (sym (map-id (range_with_len 0 (n + 1))))
    ∙ filter_of_map_range_with_len_more p (λ i. i) 0 n n (omega arith)
    ∙ ap (λ xs. filter p xs ++ cond (p n) (n ∷ []) []) (map-id (range_with_len 0 n))

-- the next number of a range passes
pub filter_range-yes : (p : ℕ → Bool) (n : ℕ) → p n ≡ true →
    filter p (range_with_len 0 (n + 1)) ≡ filter p (range_with_len 0 n) ++ n ∷ []
filter_range-yes p n passes = filter_range-more p n ∙ ap (λ b. filter p (range_with_len 0 n) ++ cond b (n ∷ []) []) passes

-- it fails
pub filter_range-no : (p : ℕ → Bool) (n : ℕ) → p n ≡ false →
    filter p (range_with_len 0 (n + 1)) ≡ filter p (range_with_len 0 n)
filter_range-no p n fails =
    filter_range-more p n ∙ ap (λ b. filter p (range_with_len 0 n) ++ cond b (n ∷ []) []) fails
    ∙ append-nil (filter p (range_with_len 0 n))

-- two tests that agree on the numbers pass the same
pub filter_range-agree : (p q : ℕ → Bool) (a n : ℕ) → ((i : ℕ) → a ≤ i → i < a + n → p i ≡ q i) →
    filter p (range_with_len a n) ≡ filter q (range_with_len a n)
filter_range-agree p q a zero h = refl
filter_range-agree p q a (suc n) h =
    ap (λ b. cond b (a ∷ filter p (range_with_len (a + 1) n)) (filter p (range_with_len (a + 1) n)))
    (h a (omega arith) (omega arith))
    ∙ ap (λ xs. cond (q a) (a ∷ xs) xs) (filter_range-agree p q (a + 1) n (λ i low high. h i (omega arith) (omega arith)))

-- numbers none of which passes a test add nothing
pub filter_range-none_more : (p : ℕ → Bool) (a n : ℕ) → ((q : ℕ) → a ≤ q → q < a + n → p q ≡ false) →
    filter p (range_with_len 0 (a + n)) ≡ filter p (range_with_len 0 a)
filter_range-none_more p a zero h = ap (λ k. filter p (range_with_len 0 k)) (let e : a + 0 ≡ a = omega arith in e)
filter_range-none_more p a (suc n) h =
    ap (λ k. filter p (range_with_len 0 k)) (let e : a + suc n ≡ a + n + 1 = omega arith in e)
    ∙ filter_range-no p (a + n) (h (a + n) (omega arith) (omega arith))
    ∙ filter_range-none_more p a n (λ q low high. h q low (omega (arith, high)))

-- a number that passes is among them
pub Contains-filter_range : (p : ℕ → Bool) (a n q : ℕ) → a ≤ q → q < a + n → p q ≡ true → Contains (filter p (range_with_len a n)) q
Contains-filter_range p a n q low high passes =
    Contains-filter p (range_with_len a n) q passes (
      q - a,
      omega (arith, length-range_with_len a n, low, high),
      get_or-range_with_len a n (q - a) q (omega (arith, low, high)) ∙ (let e : a + (q - a) ≡ q = omega (arith, low) in e),
    )

-- and each of them passes
pub filter_range-passes : (p : ℕ → Bool) (a n q : ℕ) → Contains (filter p (range_with_len a n)) q → (a ≤ q) × (q < a + n) × (p q ≡ true)
filter_range-passes p a n q there =
    let Within : ℕ → Type 0 = λ x. (a ≤ x) × (x < a + n) in
    let within : Within q =
    All-contains Within (filter p (range_with_len a n)) q (All-filter p Within (range_with_len a n) each) there in (
      within.0,
      within.1,
      All-contains (λ x. p x ≡ true) (filter p (range_with_len a n)) q (filter_passes p (range_with_len a n)) there,
    )
  where
    each : All (λ x. (a ≤ x) × (x < a + n)) (range_with_len a n)
    each k d hk =
        let below : k < n = omega (arith, hk, length-range_with_len a n) in
        let at = get_or-range_with_len a n k d below in
        (omega (arith, at), omega (arith, at, below))

-- and they rise
pub filter_range-rises : (p : ℕ → Bool) (a n : ℕ) → IsStrictlyIncreasing (filter p (range_with_len a n))
filter_range-rises p a n = IsStrictlyIncreasing-filter p (range_with_len a n) (λ k hk.
    let l : length (range_with_len a n) ≡ n = length-range_with_len a n in
    omega
    (arith, get_or-range_with_len a n k 0 (omega (arith, hk, l)), get_or-range_with_len a n (k + 1) 0 (omega (arith, hk, l))))
