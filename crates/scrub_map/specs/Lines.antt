-- The lines of a map file of GNU ddrescue: its state, and its blocks.
use Rattle.std.specs.Prelude.{◌≡◌, ◌<◌, ◌+◌, ◌^◌, ◌==◌, ℕ, Bool, true, List, [], ◌∷◌, length, slice_index, codes, if◌then◌else◌}
use Rattle.std.specs.List.{slice_split}
use Rattle.scrub_map.specs.Number.{IsNumber, WritesNumber}
use Rattle.scrub_map.specs.Fields.{is_one_of}
use Rattle.scrub_map.specs.declared.block.MapBlock.{MapBlock}

-- the parts of a text, without the last one if that is empty
abbrev pub without_empty_end : List (List ℕ) → List (List ℕ)
without_empty_end [] = []
without_empty_end (part ∷ []) = if length part == 0 then [] else part ∷ []
without_empty_end (part ∷ next ∷ parts) = part ∷ without_empty_end (next ∷ parts)

-- the lines of a text, which are the parts between its line feeds; the last line needs none
unfoldable pub map_lines : List ℕ → List (List ℕ)
map_lines text = without_empty_end (slice_split (λ byte. byte == 10) text)

-- these are the fields of a blank line, or of a comment, whose first field begins with `#`
abbrev pub says_nothing : List (List ℕ) → Bool
says_nothing [] = true
says_nothing (first ∷ more) = slice_index first 0 == 35

-- these fields are the state of a map: a number, one of `?*/-FG+`, and perhaps a decimal number
abbrev pub IsState : List (List ℕ) → Type 0
IsState (position ∷ state ∷ []) = ((n : ℕ) × IsNumber position n) × (is_one_of (codes "?*/-FG+") state ≡ true)
IsState (position ∷ state ∷ pass ∷ []) =
    ((n : ℕ) × IsNumber position n) × (is_one_of (codes "?*/-FG+") state ≡ true) × ((n : ℕ) × WritesNumber 10 pass n)
IsState _ = ⊥

-- these fields are a block: a position, a size and one of `?*/-+`, with position and size together at most 2^63 - 1
abbrev pub IsBlock : List (List ℕ) → MapBlock → Type 0
IsBlock (position ∷ size ∷ status ∷ []) block =
    IsNumber position block.position × IsNumber size block.size × (block.position + block.size < 2 ^ 63) ×
    (is_one_of (codes "?*/-+") status ≡ true) × (block.is_rescued ≡ (slice_index status 0 == 43))
IsBlock _ block = ⊥
