-- Steps of reading a raw image in blocks, and of the search for records in them.
use Rattle.std.specs.Prelude.{◌≡◌, ◌<◌, ◌≤◌, ◌+◌, ◌*◌, ◌/◌, ◌%◌, ◌↔◌, ℕ, List, Bool, true, false, Some, ◌⊎◌, Contains, slice_get, slice_index, slice_index_or, take, [], ◌∷◌, ◌&&◌, not, if◌then◌else◌, All}
use Rattle.std.specs.Prelude.{length as len}
use Rattle.scrub_disk.specs.Limits.{max_extent_bytes}
use Rattle.scrub_disk.specs.declared.geometry.Geometry.{Geometry}
use Rattle.scrub_disk.specs.Image.{AreBytesAt, extent_bytes}
use Rattle.scrub_disk.specs.Raw.{MayFailIn}
use Rattle.scrub_super.specs.declared.unknown_sizes.FoundRecord.{FoundRecord}
use Rattle.scrub_super.specs.declared.unknown_sizes.LostBytes.{LostBytes}
use Rattle.scrub_super.specs.declared.unknown_sizes.blocks.Block.{Block}
use Rattle.scrub_super.specs.Contents.{Contents}
use Rattle.scrub_super.specs.Record.{BeginsWithRecord, record_bytes}
use Rattle.scrub_super.specs.Pages.{kind_of}
use Rattle.scrub_super.specs.Blocks.{IsMarked}

-- a block at an offset was read into the front of `out`, or is lost because a read in it failed
pub record IsBlockRead (bytes : List ℕ) (fails : ℕ → ℕ → Bool) (offset before after : ℕ) (out : List ℕ) (block : Block) : Type 0 where
  pub read : block.is_lost ≡ false → AreBytesAt (slice_get bytes) offset (take block.len out)
  pub ended : block.len < 512 → len bytes ≤ offset + block.len
  pub only : block.is_lost ≡ true → (before < after) × MayFailIn fails offset 512

-- the first list begins with the bytes of the second
abbrev pub BeginsWith : List ℕ → List ℕ → Type 0
BeginsWith bytes front = (i : ℕ) → i < len front → slice_get bytes i ≡ Some (slice_index front i)

-- the bytes of blocks that aren't lost are those of the raw image, and the lost blocks are those that failures cost
pub record AreBlocksRead (bytes : List ℕ) (fails : ℕ → ℕ → Bool) (failures : ℕ) (read : List ℕ) (lost : List Bool) : Type 0 where
  pub held : (i : ℕ) → i < len read → ¬ IsMarked lost (i / 512) → slice_get bytes i ≡ Some (slice_index read i)
  pub failed : List ℕ
  pub few : len failed ≤ failures
  pub each : All (λ n. MayFailIn fails (n * 512) 512) failed
  pub only : (n : ℕ) → IsMarked lost n → Contains failed n

-- all that matters was read: up to the end of the raw image, or 2^26 bytes
pub record AreAllRead (bytes : List ℕ) (fails : ℕ → ℕ → Bool) (failures : ℕ) (read : List ℕ) (lost : List Bool) : Type 0 where
  pub blocks : AreBlocksRead bytes fails failures read lost
  pub ended : (len bytes ≤ len read) ⊎ (len read ≡ max_extent_bytes)

-- the first n of these marks are true in the new list, too, and each other mark is as in the old one
pub record MarksToo (marks : List Bool) (n : ℕ) (old new : List Bool) : Type 0 where
  pub one_each : len new ≡ len old
  pub marked : (k : ℕ) → IsMarked new k ↔ (IsMarked old k ⊎ ((k < n) × IsMarked marks k))

-- no byte from the offset on up to `end` is lost, and at `end` the bytes end or one is lost
pub record IsReadableTo (size : ℕ) (lost : List Bool) (offset end : ℕ) : Type 0 where
  pub from : offset ≤ end
  pub within : end ≤ size
  pub readable : (i : ℕ) → offset ≤ i → i < end → ¬ IsMarked lost (i / 512)
  pub stops : end < size → IsMarked lost (end / 512)

-- the bytes from an offset on begin with a record of a disk of these sizes, which ends in extent 0
pub record BeginsInPlace (bytes : List ℕ) (offset : ℕ) (g : Geometry) (c : Contents) : Type 0 where
  pub page_bound : offset % g.page ≡ 0
  pub within : offset + len (record_bytes g c) ≤ extent_bytes g
  pub begins : BeginsWithRecord g bytes c

-- a record begins in place at this offset, with these sizes, kind and generation
abbrev pub TellsRecord : List ℕ → ℕ → FoundRecord → Type 0
TellsRecord bytes offset r =
    (c : Contents) × (r.offset ≡ offset) × BeginsInPlace bytes offset r.geometry c × (r.kind ≡ kind_of c) × (r.generation ≡ c.generation)

-- the range of lost bytes from block `first` on that ends with this block, if one does
abbrev pub ended_run : List Bool → ℕ → ℕ → List LostBytes
ended_run lost first block =
    if slice_index_or lost block false && not (slice_index_or lost (block + 1) false)
    then (record { from = first * 512; to = (block + 1) * 512 }) ∷ []
    else []
