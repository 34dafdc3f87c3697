-- Sums over what all passes know.
use Rattle.std.proofs.Common.{◌≡◌, ◌≢◌, ◌+◌, ◌<◌, ◌≤◌, ◌∷◌, ℕ, zero, suc, List, [], length, get_or, set, sum_by, arith, refl, sym, ap}
use mathlib.Core.Option.{some, some-injective, some-ne-none}
use lib.ListN.{get_elem?}
use Rattle.std.proofs.lemmas.List.Sums.{sum_by-cons, sum_by-set, get_or-le-sum_by}
use Rattle.scrub_pool.specs.declared.rule.View.{View}

-- the pass at this place is there
place_of : (views : List View) (port : ℕ) (v : View) → get_elem? views port ≡ some v →
    (port < length views) × (get_or views port v ≡ v)
place_of [] port v at = absurd (some-ne-none v (sym at))
place_of (x ∷ xs) zero v at = (omega arith, some-injective x v at)
place_of (x ∷ xs) (suc port) v at = let rest = place_of xs port v at in (omega (arith, rest.0), rest.1)

module _ (f : View → ℕ) where
  -- the total after one pass changed
  pub total_set : (views : List View) (port : ℕ) (v w : View) → get_elem? views port ≡ some v →
      sum_by f (set views port w) + f v ≡ sum_by f views + f w
  total_set views port v w at =
      let place = place_of views port v at in
      let is : f (get_or views port v) ≡ f v = ap f place.1 in
      omega (arith, is, sum_by-set f views port w v place.0)

  -- one pass counts no more than all
  pub total_at : (views : List View) (port : ℕ) (v : View) → get_elem? views port ≡ some v → f v ≤ sum_by f views
  total_at views port v at =
      let place = place_of views port v at in
      let is : f (get_or views port v) ≡ f v = ap f place.1 in
      omega (arith, is, get_or-le-sum_by f views port v place.0)

  -- nor do two passes
  pub total_two : (views : List View) (port other : ℕ) (v u : View) → other ≢ port → get_elem? views port ≡ some v →
      get_elem? views other ≡ some u → f v + f u ≤ sum_by f views
  total_two [] port other v u differ at there = absurd (some-ne-none v (sym at))
  total_two (x ∷ xs) zero zero v u differ at there = absurd (differ refl)
  total_two (x ∷ xs) zero (suc other) v u differ at there =
      let is : f x ≡ f v = ap f (some-injective x v at) in
      omega (arith, is, sum_by-cons f x xs, total_at xs other u there)
  total_two (x ∷ xs) (suc port) zero v u differ at there =
      let is : f x ≡ f u = ap f (some-injective x u there) in
      omega (arith, is, sum_by-cons f x xs, total_at xs port v at)
  total_two (x ∷ xs) (suc port) (suc other) v u differ at there =
      omega (arith, sum_by-cons f x xs, total_two xs port other v u (λ same. differ (ap suc same)) at there)

  total_none : (views : List View) → ((j : ℕ) (u : View) → get_elem? views j ≡ some u → f u ≡ 0) → sum_by f views ≡ 0
  total_none [] none = refl
  total_none (x ∷ xs) none =
      omega (arith, sum_by-cons f x xs, none 0 x refl, total_none xs (λ j u at. none (suc j) u at))

  -- if the others count nothing, one counts for all
  pub total_only : (views : List View) (port : ℕ) (v : View) → get_elem? views port ≡ some v →
      ((j : ℕ) (u : View) → j ≢ port → get_elem? views j ≡ some u → f u ≡ 0) → sum_by f views ≡ f v
  total_only [] port v at none = absurd (some-ne-none v (sym at))
  total_only (x ∷ xs) zero v at none =
      let is : f x ≡ f v = ap f (some-injective x v at) in
      omega (
        arith,
        is,
        sum_by-cons f x xs,
        total_none xs (λ j u there. none (suc j) u (λ same. omega (arith, same)) there),
      )
  total_only (x ∷ xs) (suc port) v at none =
      omega (
        arith,
        sum_by-cons f x xs,
        none 0 x (λ same. omega (arith, same)) refl,
        total_only xs port v at (λ j u differ there. none (suc j) u (λ same. differ (omega (arith, same))) there),
      )
