-- What is kept of a map, and which bytes it says are missing.
use Rattle.std.specs.Prelude.{◌≤◌, ◌<◌, ◌⊎◌, ◌↔◌, ℕ, List}
use Rattle.scrub_map.specs.declared.block.MapBlock.{MapBlock}
use Rattle.scrub_map.specs.declared.map.RescueMap.{RescueMap}
use Rattle.scrub_map.specs.steps.Gaps.{IsInGaps}
use Rattle.scrub_map.specs.Rescued.{IsCovered}

-- what is kept of a map lacks byte i: a gap has it, or it is at or after the end
abbrev pub IsMissing : RescueMap → ℕ → Type 0
IsMissing map i = IsInGaps map.gaps.items i ⊎ (map.end ≤ i)

-- what is kept of a map lacks exactly the bytes that these blocks don't cover
abbrev pub KeepsBlocks : RescueMap → List MapBlock → Type 0
KeepsBlocks map blocks = (i : ℕ) → IsMissing map i ↔ (¬ IsCovered blocks i)

-- each gap ends at or before the end of what was rescued
abbrev pub HasGapsBelowEnd : RescueMap → Type 0
HasGapsBelowEnd map = (i : ℕ) → IsInGaps map.gaps.items i → i < map.end
