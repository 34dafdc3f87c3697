-- A disk of which one extent alone is in memory.
use Rattle.std.specs.Prelude.{◌+◌, ◌*◌, ℕ, List, Bool, Option, Some, None, false, if◌then◌else◌, nat_eq, slice_range, slice_index_or}
use Rattle.scrub_disk.specs.declared.geometry.Geometry.{Geometry}
use Rattle.scrub_disk.specs.declared.one_extent.OneExtent.{OneExtent}
use Rattle.scrub_disk.specs.Image.{Image}

-- page q of an extent with these bytes, or None if its number is marked
abbrev pub page_of_extent : Geometry → List ℕ → List Bool → ℕ → Option (List ℕ)
page_of_extent g bytes unreadable q =
    if slice_index_or unreadable q false then None else Some (slice_range bytes (q * g.page) (q * g.page + g.page))

-- the image of a disk whose extent e has these bytes and marks; each page of all other extents is unreadable
abbrev pub alone : Geometry → ℕ → List ℕ → List Bool → Image
alone g e bytes unreadable = record {
  geometry = g;
  page = λ f q. if nat_eq f e then page_of_extent g bytes unreadable q else None;
}

-- the image of a disk of which one extent is in memory
abbrev pub image_of : OneExtent → Image
image_of d = alone d.geometry d.extent d.bytes.items d.unreadable.items
