-- Gaps between rescued bytes, and the blocks that have a byte of a gap.
use Rattle.std.specs.Prelude.{◌≡◌, ◌≤◌, ◌<◌, ◌+◌, ◌*◌, ◌⊎◌, ◌↔◌, ℕ, Bool, true, false, List, [], ◌∷◌, length, slice_index_or}
use Rattle.scrub_map.specs.declared.gap.Gap.{Gap}

-- the gap has byte i
pub record IsInGap (gap : Gap) (i : ℕ) : Type 0 where
  pub low : gap.from ≤ i
  pub high : i < gap.to

-- one of the gaps has byte i
abbrev pub IsInGaps : List Gap → ℕ → Type 0
IsInGaps [] i = ⊥
IsInGaps (gap ∷ gaps) i = IsInGap gap i ⊎ IsInGaps gaps i

-- block n of this size has a byte of the gap before this end
pub record IsHitBy (gap : Gap) (size end n : ℕ) : Type 0 where
  pub place : ℕ
  pub low : n * size ≤ place
  pub high : place < n * size + size
  pub before : place < end
  pub inside : IsInGap gap place

-- each block that the gap hits is marked, and each other mark is as it was
abbrev pub MarksGap : Gap → ℕ → ℕ → List Bool → List Bool → Type 0
MarksGap gap size end before after =
    (n : ℕ) → n < length before → (slice_index_or after n false ≡ true) ↔ ((slice_index_or before n false ≡ true) ⊎ IsHitBy gap size end n)
