-- Sorted lists in which each element is left once.
use Rattle.std.proofs.Common.{◌≡◌, Bool, List, [], subst, sym, ◌∙◌}
use Rattle.std.specs.declared.cmp.Ordering.{Ordering}
use Rattle.std.specs.Ordering.{eq_by_cmp}
use Rattle.std.specs.Cmp.{IsTotalOrder, IsEquivalence}
use Rattle.std.specs.List.Retain.{IsFiltered, DiffersFromLast}
use Rattle.std.specs.List.Sorted.{IsPermutation, IsSorted}
use Rattle.std.proofs.lemmas.Cmp.{eq_by_cmp_equiv}
use Rattle.std.proofs.lemmas.List.Filters.{dedup_is}
use Rattle.std.proofs.lemmas.List.Kept.{IsStrictlySortedBy-dedup, Contains-dedup, Contains-from_dedup}
use Rattle.std.proofs.lemmas.List.Sorted.{Contains-permutation, IsPermutation-sym}
use Rattle.std.proofs.lemmas.Map.Lookups.{CmpEqualImpliesEq}
use Rattle.std.proofs.lemmas.Map.Views.{tells_apart}
use Rattle.scrub_check.specs.steps.Distinct.{AreDistinct}

-- Sorted, and freed of what equals the one before it, a list has its elements once each, ascending.
pub distinct_made : {X : Type 0} {R : X → X → Ordering} (o : IsTotalOrder R) (exact : CmpEqualImpliesEq R) {E : X → X → Bool} (ties : (x y : X) → E x y ≡ eq_by_cmp R x y) (xs sorted once : List X) →
    IsPermutation xs sorted → IsSorted R sorted → IsFiltered (DiffersFromLast E) [] sorted once → AreDistinct R xs once
distinct_made {X} {R} o exact {E} ties xs sorted once moved rising left =
    subst (λ (ys : List X). AreDistinct R xs ys) (sym (dedup_is E sorted once left)) (record {
      rising = IsStrictlySortedBy-dedup o ties sorted rising;
      same = λ x. (
        λ there. Contains-permutation sorted xs x (IsPermutation-sym xs sorted moved) (Contains-from_dedup E sorted x there),
        λ there. Contains-dedup equivalence (λ y z same. tells_apart exact y z (sym (ties y z) ∙ same)) sorted x
            (Contains-permutation xs sorted x moved there),
      );
    })
  where
    equivalence : IsEquivalence E
    equivalence = subst (λ (F : X → X → Bool). IsEquivalence F) (λ i x y. sym (ties x y) i) (eq_by_cmp_equiv o)
