-- What a search finds, among elements in any order and among rising numbers.
use Rattle.std.proofs.Common.{◌<◌, ◌==◌, ◌∙◌, ◌∷◌, ◌≡◌, ◌≤◌, [], ap, arith, Bool, cond, Equal, Err, false, get_or, Greater, IfNone, IfSome, inl, inr, is_ok, length, Less, List, map, MatchResult, nat_cmp, None, Ok, Option, refl, Result, Some, suc, sym, true, zero, ℕ}
use Rattle.std.specs.List.{AllPairs, Contains, find, list_any}
use Rattle.std.specs.List.Sorted.{IsBinarySearchResult, IsNonDecreasingBy, IsSearchInRange, IsStrictlyIncreasing}
use Rattle.std.specs.Ordering.{nat_cmp, ordering_index}
use Rattle.std.specs.Result.{result_ok}
use Rattle.std.proofs.lemmas.Bool.{cases_lt, eqb-true}
use Rattle.std.proofs.lemmas.Bool.Decides.{nat_tests}
use Rattle.std.proofs.lemmas.Cmp.{ranked}
use Rattle.std.proofs.lemmas.Grind.{common_steps}
use Rattle.std.proofs.lemmas.List.{get_or-map, get_or_default, length-map}
use Rattle.std.proofs.lemmas.List.Folds.{list_any_at, list_any_none}
use Rattle.std.proofs.lemmas.List.Kept.{AllPairs-from_increasing}
use Rattle.std.proofs.lemmas.List.Sorted.{searched}
use Rattle.std.proofs.lemmas.Option.{none-some}
use Rattle.list_facts.proofs.Rising.{rising_never_falls}

-- what a search finds passes its test, and is in the list
pub find_passes : {X : Type 0} (p : X → Bool) (xs : List X) (y : X) → find p xs ≡ Some y → (p y ≡ true) × Contains xs y
find_passes p [] y found = absurd (none-some y found)
find_passes p (x ∷ xs) y found = by (p x) refl found (find_passes p xs y)
  where
    by : (b : Bool) → p x ≡ b → cond b (Some x) (find p xs) ≡ Some y →
        (find p xs ≡ Some y → (p y ≡ true) × Contains xs y) → (p y ≡ true) × Contains (x ∷ xs) y
    by true is here later = let same : x ≡ y = cc in (ap p (sym same) ∙ is, (0, omega arith, same))
    by false is there later = let rest = later there in (rest.0, (suc rest.1.0, omega (arith, rest.1.1), rest.1.2))

module _ {X : Type 0} (number : X → ℕ) where
  -- each value's number is below that of each later one
  pub pairs_rise : (xs : List X) → IsStrictlyIncreasing (map number xs) → AllPairs (λ x y. number x < number y) xs
  pairs_rise xs rising i j d lt below =
      let less : get_or (map number xs) i 0 < get_or (map number xs) j 0 =
      AllPairs-from_increasing (map number xs) rising i j 0 lt (omega (arith, below, length-map xs number)) in
      omega (arith, less, get_or-map number xs i d 0 (omega (arith, lt, below)), get_or-map number xs j d 0 below)

  -- a search for the number of a value ends at that value
  pub find_paired : (xs : List X) → AllPairs (λ x y. number x < number y) xs → (i : ℕ) (d : X) → i < length xs →
      find (λ x. number x == number (get_or xs i d)) xs ≡ Some (get_or xs i d)
  find_paired [] pairs i d below = absurd (omega (arith, below))
  find_paired (x ∷ xs) pairs zero d below =
      let same : (number x == number x) ≡ true = grind (arith, nat_tests) in
      ap (λ b. cond b (Some x) (find (λ y. number y == number x) xs)) same
  find_paired (x ∷ xs) pairs (suc i) d below =
      let less : number x < number (get_or xs i d) = pairs 0 (suc i) d (omega arith) below in
      let other : (number x == number (get_or xs i d)) ≡ false = grind (arith, nat_tests) in
      ap (λ b. cond b (Some x) (find (λ y. number y == number (get_or xs i d)) xs)) other
      ∙ find_paired xs (λ j k e lt within. pairs (suc j) (suc k) e (omega arith) (omega arith)) i d (omega arith)

-- a search for what isn't there finds nothing
pub find_none : {X : Type 0} (number : X → ℕ) (xs : List X) (p : ℕ) → ¬ Contains (map number xs) p → find (λ x. number x == p) xs ≡ None
find_none {X} number xs p none = by (find (λ x. number x == p) xs) refl
  where
    by : (o : Option X) → find (λ x. number x == p) xs ≡ o → o ≡ None
    by None is = refl
    by (Some x) is =
        let passes = find_passes (λ y. number y == p) xs x is in
        let there : Contains xs x = passes.1 in
        absurd (none (
          there.0,
          omega (arith, there.1, length-map xs number),
          get_or-map number xs there.0 x p there.1 ∙ ap number there.2 ∙ eqb-true (number x) p passes.0,
        ))

-- a search among ascending numbers
pub found_among_rising : (xs : List ℕ) (n : ℕ) (r : Result ℕ ℕ) → IsStrictlyIncreasing xs →
    IsBinarySearchResult (λ y. nat_cmp y n) xs r → is_ok r ≡ list_any (λ m. m == n) xs
found_among_rising xs n r rising result = by r (searched xs n r result (rising_never_falls xs rising))
  where
    by : (o : Result ℕ ℕ) →
        MatchResult o (λ i. (i < length xs) × (get_or xs i 0 ≡ n))
        (λ i. (i ≤ length xs) × ((k : ℕ) → k < i → get_or xs k 0 < n) × ((k : ℕ) → i ≤ k → k < length xs → n < get_or xs k 0))
        →
        is_ok o ≡ list_any (λ m. m == n) xs
    by (Ok i) at = sym (list_any_at (λ m. m == n) xs i 0 at.0 (grind (arith, nat_tests, at.1)))
    by (Err i) at = sym (list_any_none (λ m. m == n) xs (λ k d below. rw (get_or_default xs k d 0 below) (elim (cases_lt k i) [
      | inl less ↦ let low : get_or xs k 0 < n = at.1 k less in grind (arith, nat_tests)
      | inr more ↦ let high : n < get_or xs k 0 = at.2 k more below in grind (arith, nat_tests)
    ])))

-- if a search among ascending numbers finds no place, the number isn't there
pub not_found_among_rising : (es : List ℕ) (e : ℕ) (r : Result ℕ ℕ) → IsStrictlyIncreasing es →
    IsBinarySearchResult (λ y. nat_cmp y e) es r → IfNone (result_ok r) (¬ Contains es e)
not_found_among_rising es e (Ok i) rising is = tt
not_found_among_rising es e (Err i) rising is = λ there.
    let parted = searched es e (Err i) is (rising_never_falls es rising) in
    let at : get_or es there.0 0 ≡ e = grind (arith, common_steps, there.1, there.2) in
    elim (cases_lt there.0 i) [
      | inl less ↦ omega (arith, at, parted.1 there.0 less)
      | inr more ↦ omega (arith, at, parted.2 there.0 (omega (arith, more)) there.1)
    ]

-- how an ascending number compares with k
pub nat_cmp-rises : (a b k : ℕ) → a ≤ b → ordering_index (nat_cmp a k) ≤ ordering_index (nat_cmp b k)
nat_cmp-rises a b k h = grind (arith, nat_tests)

-- an element of a list that has one
pub first_of_some : {X : Type 0} (xs : List X) → 0 < length xs → X
first_of_some [] h = absurd (omega arith)
first_of_some (x ∷ xs) h = x

module _ {X : Type 0} (number : X → ℕ) (xs : List X) (rising : IsStrictlyIncreasing (map number xs)) where
  number-rises : (i j : ℕ) (d : X) → i ≤ j → j < length xs → number (get_or xs i d) ≤ number (get_or xs j d)
  number-rises i j d le below =
      omega (
        arith,
        rising_never_falls (map number xs) rising i j le (omega (arith, below, length-map xs number)),
        get_or-map number xs i d 0 (omega (arith, le, below)),
        get_or-map number xs j d 0 below,
      )

  compares-rise : (k : ℕ) → IsNonDecreasingBy (λ x. ordering_index (nat_cmp (number x) k)) xs
  compares-rise k i j d le below =
      nat_cmp-rises (number (get_or xs i d)) (number (get_or xs j d)) k (number-rises i j d le below)

  -- a binary search for a number ends at a value that has it, or there is none
  pub searched_by_number : (k : ℕ) (r : Result ℕ ℕ) → IsSearchInRange r (length xs) →
      IsBinarySearchResult (λ x. nat_cmp (number x) k) xs r →
      IfSome (result_ok r) (λ i. (i < length xs) × (get_or (map number xs) i 0 ≡ k)) × IfNone (result_ok r) (¬ Contains (map number xs) k)
  searched_by_number k (Ok i) within equal = (
    (within, get_or-map number xs i (first_of_some xs (omega arith)) 0 within ∙ ranked (number (get_or xs i (first_of_some xs (omega arith)))) k Equal (sym (equal (first_of_some xs (omega arith))))),
    tt,
  )
  searched_by_number k (Err i) within parted = (
    tt,
    λ there.
        let in_xs : there.0 < length xs = omega (arith, there.1, length-map xs number) in
        let d : X = first_of_some xs (omega (arith, in_xs)) in
        absent d there.0 in_xs (there.2),
  )
    where
      absent : (d : X) (j : ℕ) → j < length xs → get_or (map number xs) j k ≡ k → ⊥
      absent d j in_xs has =
          let same : number (get_or xs j d) ≡ k = sym (get_or-map number xs j d k in_xs) ∙ has in
          let point = parted (compares-rise k) in
          elim (cases_lt j i) [
            | inl less ↦
                let smaller : number (get_or xs j d) < k = ranked (number (get_or xs j d)) k Less (sym (point.0 j d (omega arith) less)) in
                omega (arith, smaller, same)
            | inr more ↦
                let greater : k < number (get_or xs j d) = ranked (number (get_or xs j d)) k Greater (sym (point.1 j d more in_xs)) in
                omega (arith, greater, same)
          ]
