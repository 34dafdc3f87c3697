-- Each list can be sorted, with all its elements or with each once.
use Rattle.std.proofs.Common.{◌+◌, ◌↔◌, ◌∙◌, ◌∷◌, ◌≡◌, [], All, AllPairs, ap, arith, Bool, Contains, Equal, false, Greater, is_eq, is_lt, Less, List, Ordering, refl, suc, true}
use Rattle.std.specs.Cmp.{IsEquivalence, IsStrictWeakOrder, IsTotalOrder}
use Rattle.std.specs.List.{dedup}
use Rattle.std.specs.List.Sorted.{IsPermutation, IsSorted, IsStrictlySortedBy}
use Rattle.std.specs.Ordering.{eq_by_cmp, ordering_reverse}
use Rattle.std.proofs.lemmas.List.Elements.{All-cons, All-nil, All-weaker}
use Rattle.std.proofs.lemmas.List.Kept.{AllPairs-cons, Contains-dedup, Contains-from_dedup, IsStrictlySortedBy-dedup}
use Rattle.std.proofs.lemmas.List.Sorted.{All-permutation, Contains-permutation, IsPermutation-cons, IsPermutation-middle, IsPermutation-refl, IsPermutation-sym, IsPermutation-trans, ranks_by}
use Rattle.std.proofs.lemmas.Map.Lookups.{CmpEqualImpliesEq}
use Rattle.list_facts.proofs.Orders.{Equal_from_is_eq, is_eq-reverse}

module _ {X : Type 0} {R : X → X → Ordering} (o : IsTotalOrder R) where
  -- y isn't below x
  abbrev Follows : X → X → Type 0
  Follows x y = is_lt (R y x) ≡ false

  weak : IsStrictWeakOrder (λ x y. is_lt (R x y))
  weak = ranks_by o (λ x. x)

  -- x among sorted elements, before the first that isn't below it
  insert_sorted : (x : X) (ys : List X) → AllPairs Follows ys →
      (zs : List X) × IsPermutation (x ∷ ys) zs × AllPairs Follows zs
  insert_sorted x [] up =
      (x ∷ [], IsPermutation-refl (x ∷ []), AllPairs-cons Follows x [] (All-nil (Follows x)) up)
  insert_sorted x (y ∷ ys) up =
      by (is_lt (R y x)) refl
      (insert_sorted x ys (λ i j d lt here. up (suc i) (suc j) d (omega (arith, lt)) (omega (arith, here))))
    where
      above : All (Follows y) ys
      above k d here = up 0 (suc k) d (omega arith) (omega (arith, here))

      by : (b : Bool) → is_lt (R y x) ≡ b → (zs : List X) × IsPermutation (x ∷ ys) zs × AllPairs Follows zs →
          (zs : List X) × IsPermutation (x ∷ y ∷ ys) zs × AllPairs Follows zs
      by false first rest = (
        x ∷ y ∷ ys,
        IsPermutation-refl (x ∷ y ∷ ys),
        AllPairs-cons Follows x (y ∷ ys)
            (All-cons (Follows x) y ys first
            (All-weaker (Follows y) (Follows x) (λ z later. weak.chain z y x later first) ys above))
            up,
      )
      by true below rest = (
        y ∷ rest.0,
        IsPermutation-trans (x ∷ y ∷ ys) (y ∷ x ∷ ys) (y ∷ rest.0) (IsPermutation-middle (x ∷ []) y ys)
            (IsPermutation-cons y (x ∷ ys) rest.0 rest.1),
        AllPairs-cons Follows y rest.0
            (All-permutation (Follows y) (x ∷ ys) rest.0 rest.1
            (All-cons (Follows y) x ys (weak.one_way y x below) above))
            rest.2,
      )

  sorted_pairs : (xs : List X) → (ys : List X) × IsPermutation xs ys × AllPairs Follows ys
  sorted_pairs [] = ([], IsPermutation-refl [], λ i j d lt here. absurd (omega (arith, here)))
  sorted_pairs (x ∷ xs) =
      let rest = sorted_pairs xs in
      let all = insert_sorted x rest.0 rest.2 in
      (all.0, IsPermutation-trans (x ∷ xs) (x ∷ rest.0) all.0 (IsPermutation-cons x xs rest.0 rest.1) all.1, all.2)

  -- the elements of a list, in the order
  pub some_sorted : (xs : List X) → (ys : List X) × IsPermutation xs ys × IsSorted R ys
  some_sorted xs =
      let all = sorted_pairs xs in (all.0, all.1, λ k d low here. all.2 k (k + 1) d (omega arith) here)

  same_by_cmp : IsEquivalence (eq_by_cmp R)
  same_by_cmp = record {
    refl = λ x. itself (R x x) (o.antisymm x x);
    symm = λ x y. ap is_eq (o.antisymm x y) ∙ is_eq-reverse (R y x);
    congr = λ x y z same. ap is_eq (o.congr x y z (Equal_from_is_eq (R x y) same));
  }
    where
      itself : (r : Ordering) → r ≡ ordering_reverse r → is_eq r ≡ true
      itself Equal e = refl
      itself Less e = absurd (cc)
      itself Greater e = absurd (cc)

  -- and each once
  pub sorted_once : CmpEqualImpliesEq R → (xs : List X) →
      (ys : List X) × IsStrictlySortedBy R ys × ((x : X) → Contains ys x ↔ Contains xs x)
  sorted_once exact xs =
      let all = some_sorted xs in
      let equal = eq_by_cmp R in (
        dedup equal all.0,
        IsStrictlySortedBy-dedup o (λ x y. refl) all.0 all.2,
        λ x. (
          (λ there. Contains-permutation all.0 xs x (IsPermutation-sym xs all.0 all.1) (Contains-from_dedup equal all.0 x there)),
          (λ there.
              Contains-dedup same_by_cmp (λ y z same. exact y z (Equal_from_is_eq (R y z) same)) all.0 x
              (Contains-permutation xs all.0 x all.1 there)),
        ),
      )
