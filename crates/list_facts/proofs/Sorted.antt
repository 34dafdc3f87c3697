-- Lists in an order: where an element parts them, how often it occurs, and that two strict ones with the same elements are one.
use Rattle.std.proofs.Common.{[], ap, arith, Bool, Equal, false, get_or, Greater, inl, inr, is_eq, is_le, is_lt, length, Less, List, map, Ordering, refl, subst, suc, sym, true, ℕ, ◌+◌, ◌-◌, ◌∙◌, ◌∷◌, ◌≡◌, ◌≤◌, ◌⊎◌}
use Rattle.std.specs.Cmp.{IsTotalOrder}
use Rattle.std.specs.List.{All, AllPairs, Contains, count_by, IsAllAdjacentAnswer}
use Rattle.std.specs.List.Sorted.{IsNonDecreasingBy, IsPartitionedBy, IsPartitionPoint, IsSorted, IsStrictlySortedBy}
use Rattle.std.specs.Ordering.{ordering_index, ordering_reverse}
use Rattle.std.specs.Prelude.{◌↔◌, IsTrue}
use Rattle.std.proofs.lemmas.Bool.{cases_lt, true≢false}
use Rattle.std.proofs.lemmas.List.Elements.{All-contains, All-from_recursion, All-map, recursion_from_All}
use Rattle.std.proofs.lemmas.List.Sorted.{searchable_from_sorted}
use Rattle.std.proofs.lemmas.Map.Keys.{Less-from_sorted, sorted_from_all_adjacent}
use Rattle.list_facts.proofs.Counts.{count_between, once_if_apart}
use Rattle.list_facts.proofs.Elements.{Contains-behind, Contains-cases}
use Rattle.list_facts.proofs.Orders.{eq_if_neither_lt_nor_gt, Equal_from_is_eq, is_le_from_lt, Less_from_is_lt, not_eq_from_lt, not_eq_from_not_le}

-- what is sorted ascends against any element
pub rises_against : {X : Type 0} {R : X → X → Ordering} (o : IsTotalOrder R) (xs : List X) (x : X) → IsSorted R xs →
    IsNonDecreasingBy (λ y. ordering_index (R y x)) xs
rises_against o xs x sorted = searchable_from_sorted o (λ y. y) xs x sorted

-- so it is parted at it
pub parted_below : {X : Type 0} {R : X → X → Ordering} (o : IsTotalOrder R) (xs : List X) (x : X) → IsSorted R xs →
    IsPartitionedBy (λ y. is_lt (R y x)) xs
parted_below {R = R} o xs x sorted i j d le under later =
    go (R (get_or xs i d) x) (R (get_or xs j d) x) (rises_against o xs x sorted i j d le under) later
  where
    go : (a b : Ordering) → ordering_index a ≤ ordering_index b → is_lt b ≡ true → is_lt a ≡ true
    go Less b rise e = refl
    go Equal Less rise e = absurd (omega (arith, rise))
    go Greater Less rise e = absurd (omega (arith, rise))
    go Equal Equal rise e = e
    go Equal Greater rise e = e
    go Greater Equal rise e = e
    go Greater Greater rise e = e

-- and behind the last that is equal to it
pub parted_through : {X : Type 0} {R : X → X → Ordering} (o : IsTotalOrder R) (xs : List X) (x : X) → IsSorted R xs →
    IsPartitionedBy (λ y. is_le (R y x)) xs
parted_through {R = R} o xs x sorted i j d le under later =
    go (R (get_or xs i d) x) (R (get_or xs j d) x) (rises_against o xs x sorted i j d le under) later
  where
    go : (a b : Ordering) → ordering_index a ≤ ordering_index b → is_le b ≡ true → is_le a ≡ true
    go Less b rise e = refl
    go Equal b rise e = refl
    go Greater Less rise e = absurd (omega (arith, rise))
    go Greater Equal rise e = absurd (omega (arith, rise))
    go Greater Greater rise e = e

-- the place before which all are below x, and none from there on
abbrev pub BelowAt : {X : Type 0} → (X → X → Ordering) → List X → X → ℕ → Type 0
BelowAt R xs x i = IsPartitionPoint (λ y. is_lt (R y x) ≡ true) (λ y. is_lt (R y x) ≡ false) xs i

-- the place before which all are at most x, and none from there on
abbrev pub ThroughAt : {X : Type 0} → (X → X → Ordering) → List X → X → ℕ → Type 0
ThroughAt R xs x i = IsPartitionPoint (λ y. is_le (R y x) ≡ true) (λ y. is_le (R y x) ≡ false) xs i

-- the first of these places is at most the second
pub below_through : {X : Type 0} (R : X → X → Ordering) (xs : List X) (x : X) (below through : ℕ) → BelowAt R xs x below →
    ThroughAt R xs x through → below ≤ length xs → below ≤ through
below_through R xs x below through lows highs inside = elim (cases_lt through below) [
  | inl less ↦
      let lt = lows.0 through x (omega arith) less in
      let le = highs.1 through x (omega arith) (omega (arith, less, inside)) in
      absurd (let bad : true ≡ false = sym (is_le_from_lt _ lt) ∙ le in true≢false bad)
  | inr more ↦ more
]

-- what lies between is how often the element occurs
pub counted_between : {X : Type 0} (R : X → X → Ordering) (xs : List X) (x : X) (below through : ℕ) → BelowAt R xs x below →
    ThroughAt R xs x through → below ≤ through → through ≤ length xs →
    count_by (λ y. is_eq (R y x)) xs ≡ through - below
counted_between R xs x below through lows highs le inside =
    count_between (λ y. is_eq (R y x)) xs below through le inside
    (λ k d lt. not_eq_from_lt _ (lows.0 k d (omega arith) lt))
    (λ k d from lt. eq_if_neither_lt_nor_gt _ (lows.1 k d from (omega (arith, lt, inside))) (highs.0 k d (omega arith) lt))
    (λ k d from lt. not_eq_from_not_le _ (highs.1 k d from lt))

-- elements ascend exactly if each is below the next
pub rises_as_answered : {X : Type 0} {R : X → X → Ordering} (o : IsTotalOrder R) (xs : List X) (known : Bool) →
    IsAllAdjacentAnswer (λ x y b. b ≡ is_lt (R x y)) xs known → IsTrue known ↔ IsStrictlySortedBy R xs
unfolding IsStrictlySortedBy
rises_as_answered o [] true below = (λ yes. tt, λ rising. refl)
rises_as_answered o [] false (k, lt, falls) = absurd (omega (arith, lt))
rises_as_answered o (x ∷ xs) true below =
    (λ yes. sorted_from_all_adjacent o (x ∷ xs) x (λ k lt. Less_from_is_lt _ (sym (below k x lt))), λ rising. refl)
rises_as_answered {R = R} o (x ∷ xs) false (k, lt, falls) = (
  λ yes. absurd (true≢false (sym yes)),
  λ rising. falls x ∙ ap is_lt (Less-from_sorted R (x ∷ xs) k (k + 1) x rising (omega arith) lt),
)

-- what is above an element isn't in its place of the order
not_eq_above : {X : Type 0} {R : X → X → Ordering} (o : IsTotalOrder R) (x y one : X) → R x one ≡ Equal → R x y ≡ Less →
    is_eq (R y one) ≡ false
not_eq_above o x y one same less = ap is_eq (o.antisymm y one ∙ ap ordering_reverse (sym (o.congr x one y same) ∙ less))

-- if elements ascend, none occurs twice
pub once_at_most : {X : Type 0} {R : X → X → Ordering} (o : IsTotalOrder R) (xs : List X) (one : X) → IsStrictlySortedBy R xs →
    count_by (λ y. is_eq (R y one)) xs ≤ 1
once_at_most {R = R} o xs one rising =
    once_if_apart (λ y. is_eq (R y one)) xs
    (λ i j d lt here same. not_eq_above o _ _ one (Equal_from_is_eq _ same) (Less-from_sorted R xs i j d rising lt here))

-- what ascends still does once each element is mapped to one that is ordered alike
pub IsStrictlySortedBy-map : {X Y : Type 0} (R : X → X → Ordering) (S : Y → Y → Ordering) (f : X → Y) (xs : List X) →
    ((x y : X) → S (f x) (f y) ≡ R x y) → IsStrictlySortedBy R xs → IsStrictlySortedBy S (map f xs)
unfolding IsStrictlySortedBy
IsStrictlySortedBy-map R S f [] alike rising = tt
IsStrictlySortedBy-map R S f (x ∷ xs) alike rising =
    let below : All (λ y. S (f x) (f y) ≡ Less) xs =
    λ k d lt. alike x _ ∙ All-from_recursion (λ y. R x y ≡ Less) xs rising.0 k d lt in (
      recursion_from_All (λ y. S (f x) y ≡ Less) (map f xs) (All-map (λ y. S (f x) y ≡ Less) f xs below),
      IsStrictlySortedBy-map R S f xs alike rising.1,
    )

-- ---- lists each of whose elements comes before all later ones, one way

module _ {X : Type 0} (R : X → X → Type 0) (one_way : (x y : X) → R x y → R y x → ⊥) where
  head_before : (x y : X) (xs : List X) → AllPairs R (x ∷ xs) → Contains xs y → R x y
  head_before x y xs up there = rw there.2 at (up 0 (suc there.0) y (omega arith) (omega (arith, there.1)))

  same_head : (x y : X) (xs ys : List X) → AllPairs R (x ∷ xs) → AllPairs R (y ∷ ys) →
      (y ≡ x) ⊎ Contains ys x → (x ≡ y) ⊎ Contains xs y → x ≡ y
  same_head x y xs ys ux uy (inl e) back = sym e
  same_head x y xs ys ux uy (inr there) (inl e) = e
  same_head x y xs ys ux uy (inr there) (inr back) =
      absurd (one_way x y (head_before x y xs ux back) (head_before y x ys uy there))

  -- what follows the head of one list follows that of the other
  among_the_rest : (x y z : X) (xs ys : List X) → AllPairs R (x ∷ xs) → x ≡ y → Contains xs z → (y ≡ z) ⊎ Contains ys z →
      Contains ys z
  among_the_rest x y z xs ys up same there (inr c) = c
  among_the_rest x y z xs ys up same there (inl e) =
      let self : R x x = subst (R x) (sym (same ∙ e)) (head_before x z xs up there) in absurd (one_way x x self self)

  rest_ordered : (x : X) (xs : List X) → AllPairs R (x ∷ xs) → AllPairs R xs
  rest_ordered x xs up i j d lt here = up (suc i) (suc j) d (omega (arith, lt)) (omega (arith, here))

  -- two such lists that contain the same are the same
  pub same_if_ordered : (xs ys : List X) → AllPairs R xs → AllPairs R ys →
      ((x : X) → Contains xs x → Contains ys x) → ((x : X) → Contains ys x → Contains xs x) → xs ≡ ys
  same_if_ordered [] [] ux uy there back = refl
  same_if_ordered [] (y ∷ ys) ux uy there back = let c = back y (0, omega arith, refl) in absurd (omega (arith, c.1))
  same_if_ordered (x ∷ xs) [] ux uy there back = let c = there x (0, omega arith, refl) in absurd (omega (arith, c.1))
  same_if_ordered (x ∷ xs) (y ∷ ys) ux uy there back =
      let first : x ≡ y =
      same_head x y xs ys ux uy (Contains-cases y ys x (there x (0, omega arith, refl)))
      (Contains-cases x xs y (back y (0, omega arith, refl))) in
      let rest : xs ≡ ys =
      same_if_ordered xs ys (rest_ordered x xs ux) (rest_ordered y ys uy)
      (λ z c. among_the_rest x y z xs ys ux first c (Contains-cases y ys z (there z (Contains-behind x xs z c))))
      (λ z c. among_the_rest y x z ys xs uy (sym first) c (Contains-cases x xs z (back z (Contains-behind y ys z c)))) in
      λ i. first i ∷ rest i

-- two lists in one strict order that contain the same are the same
pub same_if_strictly_sorted : {X : Type 0} {R : X → X → Ordering} (o : IsTotalOrder R) (xs ys : List X) → IsStrictlySortedBy R xs →
    IsStrictlySortedBy R ys → All (Contains ys) xs → All (Contains xs) ys → xs ≡ ys
same_if_strictly_sorted {R = R} o xs ys s t h k =
    same_if_ordered (λ x y. R x y ≡ Less) one_way xs ys (λ i j d lt here. Less-from_sorted R xs i j d s lt here)
    (λ i j d lt here. Less-from_sorted R ys i j d t lt here) (λ x there. All-contains (Contains ys) xs x h there)
    (λ x there. All-contains (Contains xs) ys x k there)
  where
    one_way : (x y : _) → R x y ≡ Less → R y x ≡ Less → ⊥
    one_way x y a b = let e : Less ≡ Greater = sym a ∙ o.antisymm x y ∙ ap ordering_reverse b in cc
