-- Extents that are scanned together: the first is held, then each in turn.
use Rattle.std.proofs.Common.{◌≡◌, ◌<◌, ◌+◌, ◌++◌, ◌∷◌, ◌∙◌, [], ℕ, List, Some, ap, arith, drop, get_or, inl, inr, length, refl, sym, take}
use Rattle.std.proofs.Math.ListN.{drop_of_length-le}
use Rattle.std.proofs.lemmas.Bool.{cases_lt}
use Rattle.std.proofs.lemmas.Option.{slice_get-get_or}
use Rattle.std.specs.Prelude.{slice_get}
use Rattle.list_facts.proofs.Slices.{drop_next}

empty_cons : (e : ℕ) (es : List ℕ) → e ∷ es ≡ [] → ⊥
empty_cons e es is = cc

-- one more behind a first one
pub more_behind : (e m : ℕ) (xs : List ℕ) → xs ≡ e ∷ drop 1 xs
    → (xs ++ m ∷ [] ≡ e ∷ drop 1 (xs ++ m ∷ [])) × (drop 1 (xs ++ m ∷ []) ≡ drop 1 xs ++ m ∷ [])
more_behind e m [] is = absurd (empty_cons e (drop 1 []) (sym is))
more_behind e m (x ∷ xs) is = (ap (λ (l : List ℕ). l ++ m ∷ []) is, refl)

-- the next of what is left, and what is left then
pub next_of : (xs : List ℕ) (k e : ℕ) (es : List ℕ) → e ∷ es ≡ drop k xs → (slice_get xs k ≡ Some e) × (es ≡ drop (k + 1) xs)
next_of xs k e es is = elim (cases_lt k (length xs)) [
  | inl lt ↦
      let both = is ∙ drop_next xs k 0 lt in
      (slice_get-get_or xs k 0 lt ∙ ap Some (sym (ap (λ (l : List ℕ). get_or l 0 0) both)), ap (λ (l : List ℕ). drop 1 l) both)
  | inr ge ↦ absurd (empty_cons e es (is ∙ drop_of_length-le xs {i = k} ge))
]

-- one of what is left, as one that is held
pub one_at : (xs : List ℕ) (k : ℕ) → k < length xs → take 1 (drop k xs) ≡ get_or xs k 0 ∷ []
one_at xs k lt = ap (λ (l : List ℕ). take 1 l) (drop_next xs k 0 lt)

-- one of what is left, and the rest of it
pub one_then : (xs : List ℕ) (k : ℕ) → take 1 (drop k xs) ++ drop (k + 1) xs ≡ drop k xs
one_then xs k = elim (cases_lt k (length xs)) [
  | inl lt ↦ ap (λ (l : List ℕ). take 1 l ++ drop (k + 1) xs) (drop_next xs k 0 lt) ∙ sym (drop_next xs k 0 lt)
  | inr ge ↦
      ap (λ (l : List ℕ). take 1 l ++ drop (k + 1) xs) (drop_of_length-le xs {i = k} ge)
      ∙ drop_of_length-le xs {i = k + 1} (omega (arith, ge)) ∙ sym (drop_of_length-le xs {i = k} ge)
]
