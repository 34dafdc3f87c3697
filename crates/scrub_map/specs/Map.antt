-- What a map file of GNU ddrescue is, and the first line at which a text isn't one.
use Rattle.std.specs.Prelude.{◌≡◌, ◌≤◌, ◌+◌, ◌⊎◌, ℕ, List, [], ◌∷◌, ◌++◌, ⊤, not, length, filter, map}
use Rattle.scrub_map.specs.Fields.{line_fields}
use Rattle.scrub_map.specs.Lines.{IsBlock, IsState, map_lines, says_nothing}
use Rattle.scrub_map.specs.declared.block.MapBlock.{MapBlock}

-- the fields of each line that is neither blank nor a comment
unfoldable pub statements : List (List ℕ) → List (List (List ℕ))
statements lines = filter (λ fields. not (says_nothing fields)) (map line_fields lines)

-- these are blocks, the first at or after byte `from`, and each other at or after the end of the one before
abbrev pub AreBlocksFrom : ℕ → List (List (List ℕ)) → List MapBlock → Type 0
AreBlocksFrom from [] [] = ⊤
AreBlocksFrom from (fields ∷ more) (block ∷ blocks) =
    IsBlock fields block × (from ≤ block.position) × AreBlocksFrom (block.position + block.size) more blocks
AreBlocksFrom from _ _ = ⊥

-- these lines are a map: a state, then these blocks
abbrev pub IsMapOf : List (List (List ℕ)) → List MapBlock → Type 0
IsMapOf [] blocks = ⊥
IsMapOf (state ∷ more) blocks = IsState state × AreBlocksFrom 0 more blocks

-- the text is a map of these blocks
abbrev pub IsMap : List ℕ → List MapBlock → Type 0
IsMap text blocks = IsMapOf (statements (map_lines text)) blocks

-- a map may begin with these lines: they say nothing yet, or they are a map by themselves
abbrev pub BeginsMap : List (List ℕ) → Type 0
BeginsMap lines = (statements lines ≡ []) ⊎ ((blocks : List MapBlock) × IsMapOf (statements lines) blocks)

-- a map may begin with the lines before line k, and none begins with the lines up to and including it; lines are counted
-- from 1
pub record BreaksAt (lines : List (List ℕ)) (k : ℕ) : Type 0 where
  pub before : List (List ℕ)
  pub line : List ℕ
  pub behind : List (List ℕ)
  pub parts : lines ≡ before ++ (line ∷ behind)
  pub place : k ≡ length before + 1
  pub begins : BeginsMap before
  pub breaks : ¬ BeginsMap (before ++ line ∷ [])

-- line k is the first that breaks a rule, or no line is a state and k is one more than the number of lines
abbrev pub IsFirstBadLine : List ℕ → ℕ → Type 0
IsFirstBadLine text k =
    BreaksAt (map_lines text) k ⊎ ((statements (map_lines text) ≡ []) × (k ≡ length (map_lines text) + 1))
