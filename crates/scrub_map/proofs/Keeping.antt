-- One more block, and the gap before it.
use Rattle.std.proofs.Common.{◌≡◌, ◌<◌, ◌≤◌, ◌+◌, ◌⊎◌, ℕ, true, false, List, [], ◌∷◌, ◌++◌, arith, sym, ◌∙◌, inl, inr}
use Rattle.std.specs.Prelude.{◌↔◌}
use Rattle.std.proofs.lemmas.Bool.{cases_lt, false≢true}
use Rattle.scrub_map.specs.declared.block.MapBlock.{MapBlock}
use Rattle.scrub_map.specs.declared.gap.Gap.{Gap}
use Rattle.scrub_map.specs.declared.map.RescueMap.{RescueMap}
use Rattle.scrub_map.specs.steps.Gaps.{IsInGaps}
use Rattle.scrub_map.specs.MissingBytes.{HasGapsBelowEnd, KeepsBlocks}
use Rattle.scrub_map.specs.Rescued.{IsCovered, IsRescuedIn}
use Rattle.scrub_map.proofs.Lost.{in_gaps_before, in_gaps_last, in_gaps_push}

-- the bytes covered with one more block
covered_push : (blocks : List MapBlock) (block : MapBlock) (i : ℕ) → IsCovered (blocks ++ block ∷ []) i →
    IsCovered blocks i ⊎ IsRescuedIn block i
covered_push [] block i (inl here) = inr here
covered_push [] block i (inr none) = absurd none
covered_push (x ∷ blocks) block i (inl here) = inl (inl here)
covered_push (x ∷ blocks) block i (inr more) = elim (covered_push blocks block i more) [
  | inl old ↦ inl (inr old)
  | inr new ↦ inr new
]

covered_before : (blocks : List MapBlock) (block : MapBlock) (i : ℕ) → IsCovered blocks i →
    IsCovered (blocks ++ block ∷ []) i
covered_before [] block i none = absurd none
covered_before (x ∷ blocks) block i (inl here) = inl here
covered_before (x ∷ blocks) block i (inr old) = inr (covered_before blocks block i old)

covered_last : (blocks : List MapBlock) (block : MapBlock) (i : ℕ) → IsRescuedIn block i →
    IsCovered (blocks ++ block ∷ []) i
covered_last [] block i here = inl here
covered_last (x ∷ blocks) block i here = inr (covered_last blocks block i here)

-- a block that rescues no byte changes nothing
pub kept_same : (map : RescueMap) (blocks : List MapBlock) (block : MapBlock) → ((i : ℕ) → ¬ IsRescuedIn block i) →
    KeepsBlocks map blocks → KeepsBlocks map (blocks ++ block ∷ [])
kept_same map blocks block none keeps i = (
  λ missing covered. elim (covered_push blocks block i covered) [
    | inl old ↦ (keeps i).0 missing old
    | inr new ↦ none i new
  ],
  λ lost. (keeps i).1 (λ covered. lost (covered_before blocks block i covered)),
)

-- A block without status `+` rescues no byte.
pub none_unread : (block : MapBlock) → block.is_rescued ≡ false → (i : ℕ) → ¬ IsRescuedIn block i
none_unread block e i is = absurd (false≢true (sym e ∙ is.rescued))

-- A block of size 0 rescues no byte.
pub none_empty : (block : MapBlock) → block.size ≡ 0 → (i : ℕ) → ¬ IsRescuedIn block i
none_empty block e i is = omega (arith, e, is.low, is.high)

-- the gaps with one more, which has the bytes from one place up to another
pub record GapsGrow (old new : List Gap) (from to : ℕ) : Type 0 where
  pub only : (i : ℕ) → IsInGaps new i → IsInGaps old i ⊎ ((from ≤ i) × (i < to))
  pub stay : (i : ℕ) → IsInGaps old i → IsInGaps new i
  pub grown : (i : ℕ) → from ≤ i → i < to → IsInGaps new i

-- With one more gap at their end, the gaps grow by the bytes of that gap.
pub grow_one : (old new : List Gap) (gap : Gap) → new ≡ old ++ gap ∷ [] → GapsGrow old new gap.from gap.to
grow_one old new gap e = record {
  only = λ i has. elim (in_gaps_push old gap i (rw e at has)) [
    | inl was ↦ inl was
    | inr here ↦ inr (here.low, here.high)
  ];
  stay = λ i was. rw e (in_gaps_before old (gap ∷ []) i was);
  grown = λ i low high. rw e (in_gaps_last old gap i (record { low = low; high = high }));
}

-- Gaps that stay the same grow by a range without bytes.
pub grow_none : (old new : List Gap) (from to : ℕ) → new ≡ old → to ≤ from → GapsGrow old new from to
grow_none old new from to e none = record {
  only = λ i has. inl (rw e at has);
  stay = λ i was. rw e was;
  grown = λ i low high. absurd (omega (arith, none, low, high));
}

-- a rescued block: the bytes between it and the one before are a gap
pub kept_more : (old : RescueMap) (new : List Gap) (end : ℕ) (block : MapBlock) → block.is_rescued ≡ true →
    old.end ≤ block.position → HasGapsBelowEnd old →
    end ≡ block.position + block.size → GapsGrow old.gaps.items new old.end block.position →
    (blocks : List MapBlock) → KeepsBlocks old blocks → (i : ℕ) →
    (IsInGaps new i ⊎ (end ≤ i)) ↔ (¬ IsCovered (blocks ++ block ∷ []) i)
kept_more old new place block rescued ordered below end grow blocks keeps i = (
  λ missing covered. elim (covered_push blocks block i covered) [
    | inl was ↦ (keeps i).0 (elim missing [
      | inl gap ↦ elim (grow.only i gap) [ inl before ↦ inl before | inr between ↦ inr between.0 ]
      | inr behind ↦ inr (omega (arith, behind, end, ordered))
    ]) was
    | inr here ↦ elim missing [
      | inl gap ↦ elim (grow.only i gap) [
        | inl before ↦ absurd (omega (arith, below i before, ordered, here.low))
        | inr between ↦ absurd (omega (arith, between.1, here.low))
      ]
      | inr behind ↦ absurd (omega (arith, behind, end, here.high))
    ]
  ],
  λ lost. elim ((keeps i).1 (λ covered. lost (covered_before blocks block i covered))) [
    | inl gap ↦ inl (grow.stay i gap)
    | inr behind ↦ elim (cases_lt i block.position) [
      | inl before ↦ inl (grow.grown i behind before)
      | inr from ↦ elim (cases_lt i (block.position + block.size)) [
        | inl inside ↦
            absurd (lost (covered_last blocks block i (record { rescued = rescued; low = from; high = inside })))
        | inr past ↦ inr (omega (arith, past, end))
      ]
    ]
  ],
)

-- If the gaps grow up to the start of a block, each byte in a gap is before that block's end.
pub below_more : (old : RescueMap) (new : List Gap) (block : MapBlock) → old.end ≤ block.position →
    HasGapsBelowEnd old →
    GapsGrow old.gaps.items new old.end block.position → (i : ℕ) → IsInGaps new i → i < block.position + block.size
below_more old new block ordered below grow i has = elim (grow.only i has) [
  | inl before ↦ omega (arith, below i before, ordered)
  | inr between ↦ omega (arith, between.1)
]
