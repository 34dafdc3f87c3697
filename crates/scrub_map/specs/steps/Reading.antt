-- What is known of a map while its lines are read.
use Rattle.std.specs.Prelude.{◌≡◌, ◌≤◌, ◌+◌, ℕ, Bool, true, false, List, [], ◌∷◌, ◌++◌}
use Rattle.scrub_map.specs.declared.block.MapBlock.{MapBlock}
use Rattle.scrub_map.specs.declared.reading.Reading.{Reading}
use Rattle.scrub_map.specs.MissingBytes.{HasGapsBelowEnd, KeepsBlocks}
use Rattle.scrub_map.specs.Fields.{line_fields}
use Rattle.scrub_map.specs.Map.{BeginsMap, IsMapOf, statements}

-- where the last of these blocks ends, or `from` if there is none
abbrev pub end_from : ℕ → List MapBlock → ℕ
end_from from [] = from
end_from from (block ∷ blocks) = end_from (block.position + block.size) blocks

-- the lines so far have a state and these blocks, or they say nothing
abbrev pub AreSaid : Bool → List (List (List ℕ)) → List MapBlock → Type 0
AreSaid true said blocks = IsMapOf said blocks
AreSaid false said blocks = (said ≡ []) × (blocks ≡ [])

-- a block may follow: what is kept ends at or before the end of the last block
pub record AwaitsBlock (reading : Reading) : Type 0 where
  pub below : HasGapsBelowEnd reading.map
  pub ordered : reading.map.end ≤ reading.next

-- the map kept, whether there was a state, and where the last block ends are those of these lines
pub record HasReadLines (lines : List (List ℕ)) (reading : Reading) : Type 0 where
  pub blocks : List MapBlock
  pub said : AreSaid reading.has_state (statements lines) blocks
  pub keeps : KeepsBlocks reading.map blocks
  pub end : reading.next ≡ end_from 0 blocks

-- after any lines, one more with these fields is read
abbrev pub ReadsMore : List (List ℕ) → Reading → Reading → Type 0
ReadsMore fields old new =
    (lines : List (List ℕ)) (line : List ℕ) → line_fields line ≡ fields → HasReadLines lines old → HasReadLines (lines ++ line ∷ []) new

-- after any lines, one more with these fields breaks a rule
abbrev pub BreaksRules : List (List ℕ) → Reading → Type 0
BreaksRules fields old =
    (lines : List (List ℕ)) (line : List ℕ) → line_fields line ≡ fields → HasReadLines lines old → ¬ BeginsMap (lines ++ line ∷ [])
