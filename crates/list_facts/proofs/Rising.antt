-- Lists that rise by a number of each element.
use Rattle.std.proofs.Common.{◌++◌, ◌+◌, ◌<◌, ◌∙◌, ◌∷◌, ◌≡◌, ◌≤◌, [], All, ap, arith, get_or, inl, inr, length, length-append, List, refl, suc, take, ℕ}
use Rattle.std.specs.List.{AllPairs, Contains}
use Rattle.std.specs.List.Sorted.{IsStrictlyIncreasing}
use Rattle.std.proofs.lemmas.Bool.{cases_eq, cases_lt}
use Rattle.std.proofs.lemmas.List.{get_or-take, get_or_append_left, get_or_default, length-take}
use Rattle.std.proofs.lemmas.List.Elements.{All-contains_itself}
use Rattle.std.proofs.lemmas.List.Kept.{AllPairs-from_increasing}
use Rattle.std.proofs.lemmas.List.Quantifiers.{all_pairs_push}
use Rattle.list_facts.proofs.Sorted.{same_if_ordered}

-- a number is in only one place among ascending ones
pub one_place_if_rising : (es : List ℕ) → IsStrictlyIncreasing es → (i j : ℕ) → i < length es → j < length es →
    get_or es i 0 ≡ get_or es j 0 → i ≡ j
one_place_if_rising es rising i j below within same = elim (cases_eq i j) [
  | inl e ↦ e
  | inr differ ↦ elim (cases_lt i j) [
    | inl less ↦ absurd (omega (arith, same, AllPairs-from_increasing es rising i j 0 less within))
    | inr more ↦
        absurd (omega (arith, same, AllPairs-from_increasing es rising j i 0 (omega (arith, more, differ)) below))
  ]
]

-- ascending numbers never fall
pub rising_never_falls : (es : List ℕ) → IsStrictlyIncreasing es → (i j : ℕ) → i ≤ j → j < length es →
    get_or es i 0 ≤ get_or es j 0
rising_never_falls es rising i j le below = elim (cases_eq i j) [
  | inl same ↦ omega (arith, ap (λ n. get_or es n 0) same)
  | inr differ ↦ omega (arith, AllPairs-from_increasing es rising i j 0 (omega (arith, le, differ)) below)
]

-- the number after a list
get_or_behind : (xs ys : List ℕ) (x d : ℕ) → get_or (xs ++ x ∷ ys) (length xs) d ≡ x
get_or_behind [] ys x d = refl
get_or_behind (y ∷ xs) ys x d = get_or_behind xs ys x d

-- among ascending numbers, those before x are below it
pub All_below_next : (xs ys : List ℕ) (x : ℕ) → IsStrictlyIncreasing (xs ++ x ∷ ys) → All (λ y. y < x) xs
All_below_next xs ys x rising k d within =
    let long = length-append xs (x ∷ ys) in
    let pair = AllPairs-from_increasing (xs ++ x ∷ ys) rising k (length xs) d within (omega (arith, long)) in
    omega (arith, pair, get_or_append_left xs (x ∷ ys) d k within, get_or_behind xs ys x d)

-- those before place i are below the number at i
pub All_below_at : (xs : List ℕ) (i : ℕ) → IsStrictlyIncreasing xs → i < length xs →
    All (λ y. y < get_or xs i 0) (take i xs)
All_below_at xs i rising within k d before =
    let long = length-take i xs in
    let less : k < i = omega (arith, before, long) in
    omega (
      arith,
      AllPairs-from_increasing xs rising k i d less within,
      get_or-take i xs k d less,
      get_or_default xs i 0 d within,
    )

-- a number above all others can be appended
pub IsStrictlyIncreasing-push : (xs : List ℕ) (x : ℕ) → IsStrictlyIncreasing xs → All (λ y. y < x) xs →
    IsStrictlyIncreasing (xs ++ x ∷ [])
IsStrictlyIncreasing-push xs x rising above k within = elim (cases_lt (k + 1) (length xs)) [
  | inl inside ↦
      omega (
        arith,
        rising k inside,
        get_or_append_left xs (x ∷ []) 0 k (omega (arith, inside)),
        get_or_append_left xs (x ∷ []) 0 (k + 1) inside,
      )
  | inr past ↦
      let last : k + 1 ≡ length xs = omega (arith, past, within, length-append xs (x ∷ [])) in
      let here : get_or (xs ++ x ∷ []) (k + 1) 0 ≡ x = ap (λ n. get_or (xs ++ x ∷ []) n 0) last ∙ get_or_behind xs [] x 0 in
      omega (arith, here, above k 0 (omega (arith, last)), get_or_append_left xs (x ∷ []) 0 k (omega (arith, last)))
]

module _ {X : Type 0} (key : X → ℕ) where
  abbrev Rises : List X → Type 0
  Rises = AllPairs (λ a b. key a < key b)

  -- one more, above all before it
  pub rises_more : (xs : List X) (y : X) → Rises xs → ((x : X) → Contains xs x → key x < key y) → Rises (xs ++ y ∷ [])
  rises_more xs y up below =
      all_pairs_push (λ a b. key a < key b) xs y up (λ k d hk. below (get_or xs k d) (All-contains_itself xs k d hk))

  -- the first is below each later one
  pub first_below_rest : (x y : X) (xs : List X) → Rises (x ∷ xs) → Contains xs y → key x < key y
  first_below_rest x y xs up there = rw there.2 at (up 0 (suc there.0) y (omega arith) (omega (arith, there.1)))

  -- two lists that rise and contain the same are the same
  pub one_rising_by : (xs ys : List X) → Rises xs → Rises ys → ((x : X) → Contains xs x → Contains ys x) →
      ((x : X) → Contains ys x → Contains xs x) → xs ≡ ys
  one_rising_by xs ys = same_if_ordered (λ a b. key a < key b) (λ x y less more. omega (arith, less, more)) xs ys
