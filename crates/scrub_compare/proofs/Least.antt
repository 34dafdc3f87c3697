-- The least number of which something holds, found part by part.
use Rattle.std.proofs.Common.{◌≡◌, ◌<◌, ◌≤◌, ℕ, Bool, true, false, is_some, Option, Some, None, arith, refl, sym, ap, inl, inr}
use Rattle.std.proofs.lemmas.Bool.{cases_lt, false≢true}
use Rattle.scrub_compare.specs.Written.{IsLeastNumber}
use Rattle.scrub_compare.specs.steps.Changes.{IsFirstWithin, IsLeastWithin}

-- by a test
pub tested : (low high : ℕ) (test : ℕ → Bool) (P : ℕ → Type 0) (r : Option ℕ) →
    ((p : ℕ) → low ≤ p → p < high → test p ≡ true → P p) →
    ((p : ℕ) → low ≤ p → p < high → test p ≡ false → ¬ P p) → IsFirstWithin low high test r → IsLeastWithin low high P r
tested low high test P None holds fails none = λ p from to. fails p from to (none p from to)
tested low high test P (Some p) holds fails (from, to, is, earlier) = (
  from,
  to,
  holds p from to is,
  λ q low_q below. fails q low_q (omega (arith, below, to)) (earlier q low_q below),
)

module _ (P : ℕ → Type 0) (low mid high : ℕ) (before : (p : ℕ) → low ≤ p → p < mid → ¬ P p) where
  -- none in front, and none in the next part
  pub none_more : (r : Option ℕ) → IsLeastWithin mid high P r → is_some r ≡ false → (p : ℕ) → low ≤ p → p < high → ¬ P p
  none_more None least none p from to = elim (cases_lt p mid) [
    | inl less ↦ before p from less
    | inr more ↦ least p more to
  ]
  none_more (Some q) least none p from to = absurd (false≢true (sym none))

  -- none in front, and one in the next part
  pub found_here : (top : ℕ) (r : Option ℕ) → low ≤ mid → high ≤ top → IsLeastWithin mid high P r → is_some r ≡ true →
      IsLeastWithin low top P r
  found_here top None order within least some = absurd (false≢true some)
  found_here top (Some q) order within (from, to, is, earlier) some = (
    omega (arith, order, from),
    omega (arith, to, within),
    is,
    λ p low_p below. elim (cases_lt p mid) [
      | inl less ↦ before p low_p less
      | inr more ↦ earlier p more below
    ],
  )

-- where it can hold below a bound alone
pub least_of_all : (P : ℕ → Type 0) (top : ℕ) (r : Option ℕ) → ((p : ℕ) → top ≤ p → ¬ P p) → IsLeastWithin 0 top P r → IsLeastNumber P r
least_of_all P top None past least = λ p. elim (cases_lt p top) [
  | inl less ↦ least p (omega arith) less
  | inr more ↦ past p more
]
least_of_all P top (Some q) past (from, to, is, earlier) = (is, λ p below. earlier p (omega arith) below)

-- There is at most one least number of which `P` holds.
pub one_least : (P : ℕ → Type 0) (a b : Option ℕ) → IsLeastNumber P a → IsLeastNumber P b → a ≡ b
one_least P None None x y = refl
one_least P None (Some q) x y = absurd (x q y.0)
one_least P (Some p) None x y = absurd (y p x.0)
one_least P (Some p) (Some q) x y = elim (cases_lt p q) [
  | inl less ↦ absurd (y.1 p less x.0)
  | inr more ↦ elim (cases_lt q p) [
    | inl less ↦ absurd (x.1 q less y.0)
    | inr other ↦ ap Some (let e : p ≡ q = omega (arith, more, other) in e)
  ]
]
