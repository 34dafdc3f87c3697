-- Searches among what ascends.
use Rattle.std.proofs.Common.{◌≡◌, ◌<◌, ◌≤◌, ℕ, List, true, false, length, get_or, arith, ◌∙◌, ap, inl, inr, nat_lt}
use Rattle.std.specs.List.{Contains}
use Rattle.std.specs.List.Sorted.{IsStrictlyIncreasing, IsPartitionPoint, IsPartitionedBy}
use Rattle.std.proofs.lemmas.List.{get_or_default}
use Rattle.std.proofs.lemmas.Bool.{cases_lt, cases_eq, lt-ltb, ltb-true, ltb-false}
use Rattle.std.proofs.lemmas.List.Kept.{AllPairs-from_increasing}

-- ascending pages are parted by any page
pub parted : (pages : List ℕ) (first : ℕ) → IsStrictlyIncreasing pages → IsPartitionedBy (λ p. nat_lt p first) pages
parted pages first rising i j d le below later = elim (cases_eq i j) [
  | inl same ↦ ap (λ n. nat_lt (get_or pages n d) first) same ∙ later
  | inr differ ↦
      let less : get_or pages i d < get_or pages j d = AllPairs-from_increasing pages rising i j d (omega (arith, le)) below in
      lt-ltb (get_or pages i d) first (omega (arith, less, ltb-true (get_or pages j d) first later))
]

-- the point at which a page parts ascending pages
abbrev pub PartedAt : List ℕ → ℕ → ℕ → Type 0
PartedAt pages first i = IsPartitionPoint (λ p. nat_lt p first ≡ true) (λ p. nat_lt p first ≡ false) pages i

-- one of the pages lies from the first through the last
abbrev pub LiesBetween : List ℕ → ℕ → ℕ → Type 0
LiesBetween pages first last = (q : ℕ) × Contains pages q × (first ≤ q) × (q ≤ last)

-- if one lies between, so does the next one
pub page_between : (pages : List ℕ) (i first last : ℕ) → IsStrictlyIncreasing pages → PartedAt pages first i →
    LiesBetween pages first last → (i < length pages) × (get_or pages i 0 ≤ last)
page_between pages i first last rising point (q, there, low, high) =
    let at : get_or pages there.0 0 ≡ q = get_or_default pages there.0 0 q there.1 ∙ there.2 in
    elim (cases_lt there.0 i) [
      | inl less ↦
          let below : get_or pages there.0 0 < first = ltb-true (get_or pages there.0 0) first (point.0 there.0 0 (omega arith) less) in
          absurd (omega (arith, below, at, low))
      | inr more ↦ elim (cases_eq i there.0) [
        | inl same ↦
            let e : get_or pages i 0 ≡ get_or pages there.0 0 = ap (λ n. get_or pages n 0) same in
            (omega (arith, same, there.1), omega (arith, e, at, high))
        | inr differ ↦
            let less : get_or pages i 0 < get_or pages there.0 0 = AllPairs-from_increasing pages rising i there.0 0 (omega (arith, more)) there.1 in
            (omega (arith, more, there.1), omega (arith, less, at, high))
      ]
    ]

-- if the next one does, one lies between
pub between_page : (pages : List ℕ) (i first last : ℕ) → PartedAt pages first i → i < length pages → get_or pages i 0 ≤ last →
    LiesBetween pages first last
between_page pages i first last point below high = (
  get_or pages i 0,
  (i, below, get_or_default pages i (get_or pages i 0) 0 below),
  ltb-false (get_or pages i 0) first (point.1 i 0 (omega arith) below),
  high,
)
