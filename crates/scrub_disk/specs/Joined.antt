-- Pages that lie in blocks of as many pages each.
use Rattle.std.specs.Prelude.{◌≡◌, ◌<◌, ◌+◌, ◌-◌, ◌*◌, ℕ, Bool, List, [], All, length, map, min, slice_index_or}
use Rattle.std.specs.List.{flat_map}
use Rattle.scrub_disk.specs.declared.blocks.Block.{Block}
use Rattle.scrub_disk.specs.declared.geometry.Geometry.{Geometry}
use Rattle.scrub_disk.specs.Stored.{HasPages, block_text}

-- the text of element k of a list
abbrev pub text_at : {X : Type 0} → (X → List ℕ) → List X → ℕ → List ℕ
text_at text xs k = slice_index_or (map text xs) k []

-- the bytes of all blocks, one after another
abbrev pub joined : ℕ → List Block → List ℕ
joined page blocks = flat_map (block_text page) blocks

-- of all pages of a disk, the number of the first one of block k, or of the end if that comes first
abbrev pub first_page : Geometry → ℕ → ℕ → ℕ
first_page g stride k = min (g.pages * g.extents) (k * stride)

-- element k is block first + k of a disk: it has `stride` pages, or those that are left of all pages
abbrev pub HaveSizes : ℕ → ℕ → ℕ → ℕ → List Block → Type 0
HaveSizes page stride pages first blocks =
    (k : ℕ) → k < length blocks → length (text_at (block_text page) blocks k) ≡ page * min stride (pages - (first + k) * stride)

-- `count` blocks of a disk from block `first` on, and the marks of their pages
pub record AreBlocks (g : Geometry) (stride first count : ℕ) (blocks : List Block) (marks : List Bool) : Type 0 where
  pub number : length blocks ≡ count
  pub sizes : HaveSizes g.page stride (g.pages * g.extents) first blocks
  pub stored : All (HasPages g.page) blocks
  pub whole : length (joined g.page blocks) ≡ g.page * (first_page g stride (first + count) - first_page g stride first)
  pub each_page : length marks ≡ first_page g stride (first + count) - first_page g stride first
