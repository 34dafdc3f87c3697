-- A search that halves what ascends.
use Rattle.std.proofs.Common.{◌≡◌, ◌<◌, ◌≤◌, ◌+◌, ◌*◌, ◌^◌, ℕ, zero, suc, List, length, get_or, arith, ◌∙◌, inl, inr}
use Rattle.std.specs.List.{Contains}
use Rattle.std.specs.List.Sorted.{IsStrictlyIncreasing}
use Rattle.std.proofs.lemmas.Bool.{cases_lt, cases_eq}
use Rattle.std.proofs.lemmas.List.{get_or_default}
use Rattle.std.proofs.lemmas.List.Kept.{AllPairs-from_increasing}

-- what is searched for can lie from `low` up to `high` alone
pub record LiesWithin (xs : List ℕ) (x low high : ℕ) : Type 0 where
  pub ordered : low ≤ high
  pub inside : high ≤ length xs
  pub below : (k : ℕ) → k < low → get_or xs k 0 < x
  pub above : (k : ℕ) → high ≤ k → k < length xs → x < get_or xs k 0

-- so many steps were made, and what is left is halved in so many more that they are as many as n has digits
abbrev pub HalvesIn : ℕ → ℕ → ℕ → Type 0
HalvesIn n steps width = (digits : ℕ) → n < 2 ^ digits → (left : ℕ) × (steps + left ≡ digits) × (width < 2 ^ left)

-- if the middle is below x, x lies above it
pub lies_above : (xs : List ℕ) (x low high middle : ℕ) → IsStrictlyIncreasing xs → LiesWithin xs x low high → middle < high →
    low ≤ middle → get_or xs middle 0 < x → LiesWithin xs x (middle + 1) high
lies_above xs x low high middle rising h lt le less = record {
  ordered = omega (arith, lt);
  inside = h.inside;
  below = λ k under. elim (cases_eq k middle) [
    | inl same ↦ rw same less
    | inr differ ↦
        let up : get_or xs k 0 < get_or xs middle 0 =
        AllPairs-from_increasing xs rising k middle 0 (omega (arith, under))
        (let inside = h.inside in omega (arith, lt, inside)) in
        omega (arith, up, less)
  ];
  above = h.above;
}

-- if it is above x, x lies below it
pub lies_below : (xs : List ℕ) (x low high middle : ℕ) → IsStrictlyIncreasing xs → LiesWithin xs x low high → middle < high →
    low ≤ middle → x < get_or xs middle 0 → LiesWithin xs x low middle
lies_below xs x low high middle rising h lt le more = record {
  ordered = le;
  inside = (let inside = h.inside in omega (arith, lt, inside));
  below = h.below;
  above = λ k from under. elim (cases_eq k middle) [
    | inl same ↦ rw same more
    | inr differ ↦
        let up : get_or xs middle 0 < get_or xs k 0 =
        AllPairs-from_increasing xs rising middle k 0 (omega (arith, from)) under in
        omega (arith, up, more)
  ];
}

-- if nothing is left, it isn't there
pub lies_nowhere : (xs : List ℕ) (x low high : ℕ) → LiesWithin xs x low high → high ≤ low → ¬ Contains xs x
lies_nowhere xs x low high h end (i, inside, is) =
    let at = get_or_default xs i 0 x inside in
    elim (cases_lt i low) [
      | inl less ↦ let b = h.below i less in absurd (let e : get_or xs i 0 ≡ x = at ∙ is in omega (arith, b, e))
      | inr more ↦
          let a = h.above i (omega (arith, more, end)) inside in
          absurd (let e : get_or xs i 0 ≡ x = at ∙ is in omega (arith, a, e))
    ]

-- one more step leaves at most half
pub halves_more : (n steps width less : ℕ) → HalvesIn n steps width → 0 < width → 2 * less ≤ width → HalvesIn n (steps + 1) less
halves_more n steps width less h some half digits lt = go (h digits lt)
  where
    go : (left : ℕ) × (steps + left ≡ digits) × (width < 2 ^ left) →
        (left : ℕ) × (steps + 1 + left ≡ digits) × (less < 2 ^ left)
    go (zero, e, under) = absurd (omega (arith, some, under))
    go (suc left, e, under) = (left, omega (arith, e), omega (arith, half, under))

-- so many steps are enough
pub few_steps : (n steps width digits : ℕ) → HalvesIn n steps width → n < 2 ^ digits → steps ≤ digits
few_steps n steps width digits h lt = let e = (h digits lt).1 in omega (arith, e)
