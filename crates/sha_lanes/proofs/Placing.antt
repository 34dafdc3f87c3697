-- Which spans are in a lane, and which digests are written.
use Rattle.std.proofs.Common.{◌≡◌, ◌≢◌, ◌<◌, ◌≤◌, ◌⊎◌, ℕ, List, [], length, slice_index, slice_index_or, ◌∙◌, sym, inl, inr}
use Rattle.std.proofs.lemmas.Bool.{cases_eq}
use Rattle.sha_lanes.specs.declared.lanes.Span.{Span}
use Rattle.sha_lanes.specs.Lanes.{digest_of, lane_count}

-- span i is in one of the lanes from `from` on, or its digest is written
abbrev pub IsPlaced : List ℕ → List Span → List ℕ → List (List ℕ) → ℕ → ℕ → Type 0
IsPlaced bytes spans index digests from i = (span : Span) → slice_index_or spans i span ≡ span →
    ((j : ℕ) × (from ≤ j) × (j < lane_count) × (slice_index index j ≡ i)) ⊎ (slice_index_or digests i [] ≡ digest_of bytes span)

-- the same once lane l has ended, and other spans are in the lanes
pub placed_on : (bytes : List ℕ) (spans : List Span) (index later : List ℕ) (digests more : List (List ℕ)) (l from to i : ℕ)
    → i < length spans
    → ((span : Span) → slice_index index l < length spans → slice_index_or spans (slice_index index l) span ≡ span →
    slice_index_or more (slice_index index l) [] ≡ digest_of bytes span)
    → ((k : ℕ) → k ≢ slice_index index l → slice_index_or more k [] ≡ slice_index_or digests k [])
    → ((j : ℕ) → from ≤ j → j < lane_count → j ≢ l → (to ≤ j) × (slice_index later j ≡ slice_index index j))
    → IsPlaced bytes spans index digests from i → IsPlaced bytes spans later more to i
placed_on bytes spans index later digests more l from to i below written others kept placed = λ span is.
    elim (cases_eq i (slice_index index l)) [
      | inl e ↦ inr (rw e (written span (rw e at below) (rw e at is)))
      | inr ne ↦ elim (placed span is) [
        | inl at ↦ elim (cases_eq at.0 l) [
          | inl el ↦ absurd (ne (sym (rw el at at.3)))
          | inr nl ↦
              let k = kept at.0 at.1 at.2 nl in
              inl (at.0, k.0, at.2, k.1 ∙ at.3)
        ]
        | inr done ↦ inr (others i ne ∙ done)
      ]
    ]
