-- Named locators sorted by the places that they point to, in which the code finds those of one place.
use Rattle.std.specs.Prelude.{◌≡◌, ◌==◌, ℕ, List, map}
use Rattle.std.specs.declared.cmp.Ordering.{Ordering}
use Rattle.std.specs.Ordering.{nat_cmp, ordering_then}
use Rattle.std.specs.Borrow.{Bor}
use Rattle.std.specs.List.{filter, flat_map, list_any}
use Rattle.std.specs.List.Sorted.{IsSortedByKey}
use Rattle.scrub_check.specs.declared.lists.kept_chunk.KeptChunk.{KeptChunk}
use Rattle.scrub_check.specs.declared.statuses.checked.Checked.{Checked}
use Rattle.scrub_reclaim.specs.Reclaimable.{move_line, pointing_to}

-- the named locators into these extents, in their order
abbrev pub named_in : List ℕ → List Checked → List Checked
named_in extents checked = filter (λ c. list_any (λ n. n == c.locator.extent) extents) checked

-- the place that a named locator points to: its extent and offset
abbrev pub place_pointed_to : Checked → ℕ × ℕ
place_pointed_to c = (c.locator.extent, c.locator.offset)

-- the order of places: by extent, then by offset
abbrev pub target_cmp : ℕ × ℕ → ℕ × ℕ → Ordering
target_cmp a b = ordering_then (nat_cmp a.0 b.0) (nat_cmp a.1 b.1)

-- references to named locators, sorted by the places that the locators point to
abbrev pub AreRisingPlaces : List (Bor Checked) → Type 0
AreRisingPlaces sorted = IsSortedByKey (λ one. place_pointed_to one.now) target_cmp sorted

-- for each place the same locators point to it as among the checked ones, in the same order
abbrev pub PointAlike : List Checked → List (Bor Checked) → Type 0
PointAlike checked sorted = (e p : ℕ) → pointing_to (map (λ one. one.now) sorted) e p ≡ pointing_to checked e p

-- ---- the lines of moves, as the code writes them

-- the line of a named locator to a chunk whose frame takes so many bytes
abbrev pub move_text : ℕ → Checked → List ℕ
move_text bytes c = move_line (record { named = c; bytes = bytes })

-- the lines of the named locators that point to a chunk to keep of extent e
abbrev pub kept_lines : List Checked → ℕ → KeptChunk → List ℕ
kept_lines checked e k = flat_map (move_text k.bytes) (pointing_to checked e k.start)
