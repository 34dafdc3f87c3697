-- Pages in memory, of which those of zeros aren't stored.
use Rattle.std.specs.Prelude.{◌≤◌, ◌+◌, ◌*◌, ℕ, List, Option, Some, None, IfSome, All, length, replicate, slice_range}
use Rattle.std.specs.List.{flat_map}
use Rattle.scrub_disk.specs.declared.blocks.Block.{Block}

-- the bytes of a page: those of the stored page of its number, or zeros if it has none
abbrev pub page_text : ℕ → List ℕ → Option ℕ → List ℕ
page_text page stored None = replicate page 0
page_text page stored (Some k) = slice_range stored (k * page) (k * page + page)

-- the bytes of all pages of a block, one page after another
abbrev pub block_text : ℕ → Block → List ℕ
block_text page block = flat_map (page_text page block.bytes.items) block.slots.items

-- stored page k ends within the stored bytes
abbrev pub IsStored : ℕ → List ℕ → Option ℕ → Type 0
IsStored page stored slot = IfSome slot (λ k. k * page + page ≤ length stored)

-- each page of a block is zero or stored
abbrev pub HasPages : ℕ → Block → Type 0
HasPages page block = All (IsStored page block.bytes.items) block.slots.items
