-- Ascending extents: read one after another, and searched.
use Rattle.std.proofs.Common.{◌≡◌, ◌<◌, ◌≤◌, ◌+◌, ◌*◌, ◌-◌, ◌==◌, ◌++◌, ℕ, zero, suc, List, [], ◌∷◌, true, false, cond, length, take, drop, length-drop, arith, refl, ◌∙◌, ap, inl, inr}
use Rattle.std.specs.List.{list_any}
use Rattle.std.proofs.Math.Numerals.{add-one}
use Rattle.std.proofs.lemmas.Bool.{cases_eq}
use Rattle.std.proofs.lemmas.List.{map-id, append-nil, take_all}
use Rattle.std.proofs.lemmas.List.FromFn.{filter_of_map_range_with_len_more}
use Rattle.byteorder.specs.Endian.{big_number}
use Rattle.scrub_super.specs.Planned.{is_in_use, extents_in_use}
use Rattle.scrub_super.specs.steps.RecordRead.{number_in, SpellExtents}

-- the first i numbers rise, each among 1 up to E, and the last of them is known
pub record RiseTo (extents : ℕ) (bytes : List ℕ) (i last : ℕ) : Type 0 where
  pub none : i ≡ 0 → last ≡ 0
  pub last_is : (j : ℕ) → j + 1 ≡ i → last ≡ number_in bytes j
  pub rising : (j : ℕ) → j + 1 < i → number_in bytes j < number_in bytes (j + 1)
  pub from_one : (j : ℕ) → j < i → 1 ≤ number_in bytes j
  pub below : (j : ℕ) → j < i → number_in bytes j < extents

-- the i-th number, as it is read
pub read_number : (x : List ℕ) (i : ℕ) {n : ℕ} → n ≡ big_number 4 (take (length x - 4 * i) (drop (4 * i) x)) →
    n ≡ number_in x i
read_number x i is =
    is ∙ ap (big_number 4) (take_all (length x - 4 * i) (drop (4 * i) x) (omega (arith, length-drop (4 * i) x)))

-- one more number, above the last
pub rise_more : {e : ℕ} {x : List ℕ} {i last n : ℕ} → RiseTo e x i last → n ≡ number_in x i → last < n → n < e →
    RiseTo e x (i + 1) n
rise_more {i = i} h is above within = record {
  none = λ no. absurd (omega (arith, no));
  last_is = λ j at. let k : j ≡ i = omega (arith, at) in rw k is;
  rising = λ j at. elim (cases_eq (j + 1) i) [
    | inl here ↦ rw here (omega (arith, h.last_is j here, is, above))
    | inr before ↦ h.rising j (omega (arith, at, before))
  ];
  from_one = λ j at. elim (cases_eq j i) [
    | inl here ↦ rw here (omega (arith, is, above))
    | inr before ↦ h.from_one j (omega (arith, at, before))
  ];
  below = λ j at. elim (cases_eq j i) [
    | inl here ↦ rw here (omega (arith, is, within))
    | inr before ↦ h.below j (omega (arith, at, before))
  ];
}

-- if the next number isn't above the last, the numbers don't rise
pub not_above : {e : ℕ} {x : List ℕ} (i : ℕ) {last n : ℕ} → RiseTo e x i last → n ≡ number_in x i →
    4 * i + 4 ≤ length x → n ≤ last → SpellExtents e x → ⊥
not_above zero h is fits low s = omega (arith, h.none refl, is, low, s.from_one 0 fits)
not_above (suc i) h is fits low s =
    omega (arith, h.last_is i (add-one i), rw (← add-one i) at is, low, s.rising i (omega (arith, fits)))

-- a number that is no extent, so the numbers aren't extents
pub not_below : {e : ℕ} {x : List ℕ} (i : ℕ) {n : ℕ} → n ≡ number_in x i → 4 * i + 4 ≤ length x → e ≤ n →
    SpellExtents e x → ⊥
not_below i is fits high s = omega (arith, is, high, s.below i fits)

-- the extents in use, with one more
module _ (retired : List ℕ) (i j : ℕ) (next : j ≡ i + 1) (low : 1 ≤ i) where
  more : extents_in_use j retired ≡ extents_in_use i retired ++ cond (is_in_use retired i) (i ∷ []) []
  more =
      let size : j - 1 ≡ i - 1 + 1 = omega arith in
      rw size
      (simp map-id at (filter_of_map_range_with_len_more (is_in_use retired) (λ k. k) 1 (i - 1) i (omega arith)))

  -- An extent that is retired adds none to the extents in use.
  pub one_retired : list_any (λ r. r == i) retired ≡ true → extents_in_use j retired ≡ extents_in_use i retired
  one_retired is = more ∙ rw is (append-nil (extents_in_use i retired))

  -- An extent that isn't retired is added at the end of the extents in use.
  pub one_in_use : list_any (λ r. r == i) retired ≡ false →
      extents_in_use j retired ≡ extents_in_use i retired ++ i ∷ []
  one_in_use is = rw is at more
