-- The places that sound locators point to, sorted by the code.
use Rattle.std.specs.Prelude.{◌≡◌, ◌==◌, ◌&&◌, ℕ, Bool, nat_lt, List, map}
use Rattle.std.specs.List.{filter, count_by}
use Rattle.scrub_scan.specs.declared.item.Item.{Item}
use Rattle.scrub_scan.specs.Item.{start_of}
use Rattle.scrub_check.specs.declared.lists.place.Place.{Place}
use Rattle.scrub_check.specs.declared.lists.place.SharedPlace.{SharedPlace}
use Rattle.scrub_check.specs.declared.statuses.checked.Checked.{Checked}
use Rattle.scrub_check.specs.declared.places.chunk_at.ChunkAt.{ChunkAt}
use Rattle.scrub_check.specs.steps.Places.{is_place, place_named_by}
use Rattle.scrub_check.specs.Checked.{is_sound}
use Rattle.scrub_check.specs.Live.{is_chunk, sound_at, has_sound_at}

-- the checked locator is sound and points to place p of extent e
abbrev pub is_sound_at : ℕ → ℕ → Checked → Bool
is_sound_at e p c = is_sound c.status && (c.locator.extent == e) && (c.locator.offset == p)

-- the item of extent e is a live chunk: a sound locator points to its start
abbrev pub is_live : List Checked → ℕ → Item → Bool
is_live checked e item = is_chunk item && has_sound_at checked e (start_of item)

-- where the locator points
abbrev pub place_of_checked : Checked → ChunkAt
place_of_checked c = place_named_by c.locator

-- the places that the sound ones of some locators point to, in the order of the locators
abbrev pub sound_places : List Checked → List ChunkAt
sound_places checked = map place_of_checked (filter (λ c. is_sound c.status) checked)

-- the places that the sound ones of some locators point to, in some order, each as often as they do
abbrev pub AreSoundPlaces : List Checked → List ChunkAt → Type 0
AreSoundPlaces checked starts = (s : ChunkAt) → count_by (is_place s) starts ≡ sound_at checked s.extent s.offset

-- the item of extent e is a chunk, and its start is one of these
abbrev pub is_live_by : List ChunkAt → ℕ → Item → Bool
is_live_by starts e item = is_chunk item && nat_lt 0 (count_by (is_place (record { extent = e; offset = start_of item })) starts)

-- the place of the chunk is one of these
abbrev pub is_named_by : List ChunkAt → Place → Bool
is_named_by starts p = nat_lt 0 (count_by (is_place (record { extent = p.extent; offset = p.offset })) starts)

-- a place, and how often it is among these
abbrev pub place_counted : List ChunkAt → ChunkAt → SharedPlace
place_counted starts s = record { extent = s.extent; offset = s.offset; count = count_by (is_place s) starts }

-- those of some places that are among them twice or more
abbrev pub shared_by : List ChunkAt → List ChunkAt → List SharedPlace
shared_by starts places = filter (λ p. nat_lt 1 p.count) (map (place_counted starts) places)
