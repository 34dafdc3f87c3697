-- Which chunks are live: those whose place a sound named locator points to.
use Rattle.std.specs.Prelude.{◌≡◌, ◌==◌, ◌&&◌, ◌-◌, ℕ, Bool, true, false, nat_lt, List, MatchOption}
use Rattle.std.specs.List.{filter, sum_by, count_by}
use Rattle.scrub_scan.specs.declared.item.Item.{Item}
use Rattle.scrub_scan.specs.declared.item.Item.TheVariants.{Chunk}
use Rattle.scrub_scan.specs.Item.{start_of, stop_of}
use Rattle.scrub_scan.specs.Scanned.{Scanned}
use Rattle.scrub_scan.specs.AllFindings.{entry_of}
use Rattle.scrub_check.specs.declared.statuses.checked.Checked.{Checked}
use Rattle.scrub_check.specs.Checked.{is_sound}

-- how many sound locators point to place p of extent e
abbrev pub sound_at : List Checked → ℕ → ℕ → ℕ
sound_at checked e p = count_by (λ c. is_sound c.status && (c.locator.extent == e) && (c.locator.offset == p)) checked

-- whether a sound locator points to place p of extent e
abbrev pub has_sound_at : List Checked → ℕ → ℕ → Bool
has_sound_at checked e p = nat_lt 0 (sound_at checked e p)

-- the item is a chunk
abbrev pub is_chunk : Item → Bool
is_chunk (Chunk form start stop uuid length digest) = true
is_chunk _ = false

-- the live chunks of an extent, to whose starts a sound locator points, in the order of its items
abbrev pub live_chunks : List Checked → Scanned → List Item
live_chunks checked f = filter (λ item. is_chunk item && nat_lt 0 (sound_at checked f.extent (start_of item))) f.findings.items

-- how many bytes of the extent an item takes, from its start to its stop
abbrev pub size_of : Item → ℕ
size_of item = stop_of item - start_of item

-- how many bytes of an extent its live chunks take
abbrev pub live_bytes : List Checked → Scanned → ℕ
live_bytes checked f = sum_by size_of (live_chunks checked f)

-- the live bytes of extent e, or 0 if it wasn't scanned
abbrev pub HasLiveBytes : List Scanned → List Checked → ℕ → ℕ → Type 0
HasLiveBytes all checked e n = MatchOption (entry_of all e) (n ≡ 0) (λ f. n ≡ live_bytes checked f)
