-- Whether the blocks of a map cover a byte.
use Rattle.std.proofs.Common.{◌≡◌, ◌+◌, ◌⊎◌, ℕ, Bool, true, false, List, [], ◌∷◌, arith, refl, sym, ◌∙◌, inl, inr}
use Rattle.std.specs.Prelude.{◌↔◌}
use Rattle.std.proofs.lemmas.Bool.{cases_lt, false≢true}
use Rattle.scrub_map.specs.declared.block.MapBlock.{MapBlock}
use Rattle.scrub_map.specs.Rescued.{IsCovered, IsRescuedIn}

-- whether a block has byte i, with status `+`
rescued_decided : (block : MapBlock) (i : ℕ) → IsRescuedIn block i ⊎ (¬ IsRescuedIn block i)
rescued_decided block i = by_status block.is_rescued refl
  where
    by_status : (b : Bool) → block.is_rescued ≡ b → IsRescuedIn block i ⊎ (¬ IsRescuedIn block i)
    by_status false is = inr (λ r. false≢true (sym is ∙ r.rescued))
    by_status true is = elim (cases_lt i block.position) [
      | inl before ↦ inr (λ r. omega (arith, r.low, before))
      | inr from ↦ elim (cases_lt i (block.position + block.size)) [
        | inl inside ↦ inl (record { rescued = is; low = from; high = inside })
        | inr past ↦ inr (λ r. omega (arith, r.high, past))
      ]
    ]

pub covered_decided : (blocks : List MapBlock) (i : ℕ) → IsCovered blocks i ⊎ (¬ IsCovered blocks i)
covered_decided [] i = inr (λ none. none)
covered_decided (block ∷ blocks) i = elim (rescued_decided block i) [
  | inl here ↦ inl (inl here)
  | inr not_here ↦ elim (covered_decided blocks i) [
    | inl more ↦ inl (inr more)
    | inr nowhere ↦ inr (λ covered. elim covered [ inl here ↦ not_here here | inr more ↦ nowhere more ])
  ]
]

-- whether a condition fails, if that is decided
abbrev fails_by : {P : Type 0} → P ⊎ (¬ P) → Bool
fails_by (inl is) = false
fails_by (inr is_not) = true

fails_by-says : {P : Type 0} (decided : P ⊎ (¬ P)) → (fails_by decided ≡ true) ↔ (¬ P)
fails_by-says (inl is) = ((λ e. absurd (false≢true e)), (λ is_not. absurd (is_not is)))
fails_by-says (inr is_not) = ((λ e. is_not), (λ n. refl))

-- whether a byte isn't covered
abbrev pub is_lacking : List MapBlock → ℕ → Bool
is_lacking blocks i = fails_by (covered_decided blocks i)

pub is_lacking-says : (blocks : List MapBlock) (i : ℕ) → (is_lacking blocks i ≡ true) ↔ (¬ IsCovered blocks i)
is_lacking-says blocks i = fails_by-says (covered_decided blocks i)
