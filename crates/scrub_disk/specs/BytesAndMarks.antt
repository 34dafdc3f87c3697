-- The image that a list of bytes and a list of marks hold.
use Rattle.std.specs.Prelude.{ℕ, ◌+◌, ◌*◌, List, Bool, false, Option, Some, None, if◌then◌else◌, slice_range, slice_index_or}
use Rattle.scrub_disk.specs.declared.geometry.Geometry.{Geometry}
use Rattle.scrub_disk.specs.Image.{Image}

-- the number of page q of extent e among all pages of the disk: e times the pages of an extent, plus q
abbrev pub page_number : Geometry → ℕ → ℕ → ℕ
page_number g e q = e * g.pages + q

-- the bytes of a page, or None if its number is marked
abbrev pub held_page : Geometry → List ℕ → List Bool → ℕ → ℕ → Option (List ℕ)
held_page g bytes unreadable e q =
    let n = page_number g e q in
    if slice_index_or unreadable n false then None else Some (slice_range bytes (n * g.page) (n * g.page + g.page))

-- the image that a list of bytes and a list of marks hold
abbrev pub held : Geometry → List ℕ → List Bool → Image
held g bytes unreadable = record { geometry = g; page = held_page g bytes unreadable }
