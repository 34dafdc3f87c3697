-- Bytes that are all zero, step by step.
use Rattle.std.proofs.Common.{◌≡◌, ◌<◌, ◌≤◌, ◌-◌, ◌+◌, ℕ, List, length, drop, take, get_or, arith, sym, ◌∙◌, ap, inl, inr}
use Rattle.std.proofs.lemmas.Bool.{cases_lt}
use Rattle.std.proofs.lemmas.List.{get_or-drop, get_or-take, length-drop, length-take-le}

-- each of these bytes is zero
abbrev pub AreZero : List ℕ → Type 0
AreZero xs = (k : ℕ) → k < length xs → get_or xs k 0 ≡ 0

-- those up to a place, and those of a part from there on
pub zero_on : (xs : List ℕ) (place stop : ℕ) → place ≤ stop → stop ≤ length xs → ((k : ℕ) → k < place → get_or xs k 0 ≡ 0)
    → AreZero (take (stop - place) (drop place xs)) → (k : ℕ) → k < stop → get_or xs k 0 ≡ 0
zero_on xs place stop le within before here k lt = elim (cases_lt k place) [
  | inl front ↦ before k front
  | inr behind ↦
      let j = k - place in
      let size = length-take-le (stop - place) (drop place xs) (omega (arith, length-drop place xs, within)) in
      let below : j < stop - place = omega (arith, lt, behind) in
      let same : place + j ≡ k = omega (arith, behind) in
      ap (λ i. get_or xs i 0) (sym same) ∙ sym (get_or-drop place xs j 0)
      ∙ sym (get_or-take (stop - place) (drop place xs) j 0 below) ∙ here j (omega (arith, size, below))
]
