-- Places that locators point to, and their order.
use Rattle.std.specs.Prelude.{◌≡◌, ◌<◌, ℕ, Bool, List, Option, MatchOption, Contains, length, slice_index}
use Rattle.std.specs.declared.cmp.Ordering.{Ordering}
use Rattle.std.specs.Ordering.{nat_cmp, ordering_then, is_eq}
use Rattle.scrub_frame.specs.declared.locator.Locator.{Locator}
use Rattle.scrub_check.specs.declared.places.chunk_at.ChunkAt.{ChunkAt}

-- where a locator points: an extent and a byte of it
abbrev pub place_named_by : Locator → ChunkAt
place_named_by l = record { extent = l.extent; offset = l.offset }

-- the order of places: by extent, and then by byte
abbrev pub chunk_at_cmp : ChunkAt → ChunkAt → Ordering
chunk_at_cmp a b = ordering_then (nat_cmp a.extent b.extent) (nat_cmp a.offset b.offset)

-- two places are the same
abbrev pub is_place : ChunkAt → ChunkAt → Bool
is_place a b = is_eq (chunk_at_cmp b a)

-- the index of a place among some places, if it is one of them
abbrev pub IsIndexOf : List ℕ → ℕ → Option ℕ → Type 0
IsIndexOf starts start at = MatchOption at (¬ Contains starts start) (λ i. (i < length starts) × (slice_index starts i ≡ start))
