-- The room of extents, by the numbers of those into which unsound locators point.
use Rattle.std.specs.Prelude.{◌==◌, ◌&&◌, ℕ, Bool, List, [], not, if◌then◌else◌}
use Rattle.std.specs.List.{list_any}
use Rattle.scrub_disk.specs.declared.geometry.Geometry.{Geometry}
use Rattle.scrub_scan.specs.Scanned.{Scanned}
use Rattle.scrub_found.specs.Scrubbed.{is_clean_extent}
use Rattle.scrub_reclaim.specs.Room.{place_in, room_fits, room_in, room_line}

-- each page of the extent can be read, each of its items is a chunk or zeros, and it isn't among these numbers
abbrev pub may_grow_by : List ℕ → Scanned → Bool
may_grow_by barred f = is_clean_extent f && not (list_any (λ n. n == f.extent) barred)

-- the extent may grow, and isn't among the closed ones
abbrev pub may_take_by : List ℕ → List ℕ → Scanned → Bool
may_take_by barred closed f = not (list_any (λ n. n == f.extent) closed) && may_grow_by barred f

-- the line of a scanned extent into which a chunk can be put, if a frame fits, or else nothing
abbrev pub room_text : Bool → Geometry → Scanned → List ℕ
room_text is_listed g f = if room_fits g f then room_line is_listed f.extent (place_in g f) (room_in g f) else []
