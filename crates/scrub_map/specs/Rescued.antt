-- Which bytes the blocks of a map cover, and which blocks of a size they lack.
use Rattle.std.specs.Prelude.{◌≡◌, ◌≤◌, ◌<◌, ◌+◌, ◌*◌, ◌⊎◌, ◌↔◌, ℕ, Bool, true, false, List, [], ◌∷◌, length, slice_index_or}
use Rattle.std.specs.Int.{div_ceil}
use Rattle.scrub_map.specs.declared.block.MapBlock.{MapBlock}

-- a block with status `+` has byte i
pub record IsRescuedIn (block : MapBlock) (i : ℕ) : Type 0 where
  pub rescued : block.is_rescued ≡ true
  pub low : block.position ≤ i
  pub high : i < block.position + block.size

-- some block with status `+` has byte i
abbrev pub IsCovered : List MapBlock → ℕ → Type 0
IsCovered [] i = ⊥
IsCovered (block ∷ blocks) i = IsRescuedIn block i ⊎ IsCovered blocks i

-- block n of this size, in bytes, has a byte before this end that no block of the map with status `+` covers
pub record IsLostBlock (blocks : List MapBlock) (size end n : ℕ) : Type 0 where
  pub place : ℕ
  pub low : n * size ≤ place
  pub high : place < n * size + size
  pub before : place < end
  pub lost : ¬ IsCovered blocks place

-- each block of this size that begins before this end has a mark, which is true exactly if the block is lost
pub record AreLostBlocks (blocks : List MapBlock) (size end : ℕ) (marks : List Bool) : Type 0 where
  pub one_each : length marks ≡ div_ceil end size
  pub lost : (n : ℕ) → n < length marks → (slice_index_or marks n false ≡ true) ↔ IsLostBlock blocks size end n
