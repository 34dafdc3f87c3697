-- Steps of filling a block: pages that are added to those of before.
use Rattle.std.specs.Prelude.{◌≡◌, ◌<◌, ◌*◌, ◌/◌, ◌++◌, ℕ, Bool, true, false, List, length, slice_index, slice_index_or}
use Rattle.scrub_disk.specs.declared.blocks.Block.{Block}
use Rattle.scrub_disk.specs.Stored.{block_text}

-- a block got the first pages of these bytes after its own: each byte is there, unless its page is marked
pub record AddsPages (page : ℕ) (old new : Block) (count : ℕ) (bytes : List ℕ) (marks : List Bool) : Type 0 where
  pub added : List ℕ
  pub text : block_text page new ≡ block_text page old ++ added
  pub size : length added ≡ count * page
  pub same : (i : ℕ) → i < count * page → slice_index_or marks (i / page) true ≡ false → slice_index added i ≡ slice_index bytes i
