-- The image of a disk in memory, and how it changes.
use Rattle.std.specs.Prelude.{◌≡◌, ◌≢◌, ◌<◌, ◌≤◌, ◌+◌, ℕ, List, length, slice_index, replicate, Some, None, ◌⊎◌}
use Rattle.std.specs.Option.{option_map}
use Rattle.scrub_disk.specs.declared.geometry.Geometry.{Geometry}
use Rattle.scrub_disk.specs.declared.memory.MemDisk.{MemDisk}
use Rattle.scrub_disk.specs.Image.{Image, image_byte, extent_bytes}
use Rattle.scrub_disk.specs.BytesAndMarks.{held}

-- the image that the bytes and marks of a disk in memory hold
abbrev pub image_of : MemDisk → Image
image_of d = held d.geometry d.bytes.items d.unreadable.items

-- each page is readable and all zero
pub record IsBlank (d : Image) (g : Geometry) : Type 0 where
  pub geometry : d.geometry ≡ g
  pub zero : (e q : ℕ) → e < g.extents → q < g.pages → d.page e q ≡ Some (replicate g.page 0)

-- the bytes put there are at their place wherever the page is readable, each other byte is as it was, and no page
-- becomes readable or unreadable
pub record Puts (old new : Image) (e offset : ℕ) (bytes : List ℕ) : Type 0 where
  pub geometry : new.geometry ≡ old.geometry
  pub written : (k : ℕ) → k < length bytes → image_byte new e (offset + k) ≡ option_map (λ _. slice_index bytes k) (image_byte old e (offset + k))
  pub kept : (i : ℕ) → i < extent_bytes old.geometry → (i < offset) ⊎ (offset + length bytes ≤ i) → image_byte new e i ≡ image_byte old e i
  pub others : (f i : ℕ) → f < old.geometry.extents → i < extent_bytes old.geometry → f ≢ e → image_byte new f i ≡ image_byte old f i

-- this page is unreadable, and each other page is as it was
pub record Marks (old new : Image) (e q : ℕ) : Type 0 where
  pub geometry : new.geometry ≡ old.geometry
  pub marked : new.page e q ≡ None
  pub others : (f r : ℕ) → f < old.geometry.extents → r < old.geometry.pages → (f ≢ e) ⊎ (r ≢ q) → new.page f r ≡ old.page f r
