-- The sorted places that sound locators point to, as they are walked beside the items of the extents.
use Rattle.std.specs.Prelude.{◌≡◌, ◌<◌, ◌≤◌, ℕ, false, not, Option, List, length, map, slice_index_or}
use Rattle.std.specs.Ordering.{is_lt}
use Rattle.std.specs.List.{filter, filter_map, sum_by}
use Rattle.std.specs.List.Sorted.{IsSorted}
use Rattle.scrub_disk.specs.declared.geometry.Geometry.{Geometry}
use Rattle.scrub_scan.specs.declared.item.Item.{Item}
use Rattle.scrub_scan.specs.Item.{start_of}
use Rattle.scrub_scan.specs.Scanned.{Scanned}
use Rattle.scrub_check.specs.declared.statuses.checked.Checked.{Checked}
use Rattle.scrub_check.specs.declared.lists.cursor.Cursor.{Cursor}
use Rattle.scrub_check.specs.declared.lists.kept_chunk.KeptChunk.{KeptChunk}
use Rattle.scrub_check.specs.declared.lists.place.Place.{Place}
use Rattle.scrub_check.specs.declared.places.chunk_at.ChunkAt.{ChunkAt}
use Rattle.scrub_check.specs.declared.lists.live_and_orphans.LiveChunks.{LiveChunks}
use Rattle.scrub_check.specs.declared.lists.live_and_orphans.LiveAndOrphans.{LiveAndOrphans}
use Rattle.scrub_check.specs.Live.{size_of, live_chunks, live_bytes}
use Rattle.scrub_check.specs.Chunks.{place_of, orphans}
use Rattle.scrub_check.specs.steps.Places.{chunk_at_cmp}
use Rattle.scrub_check.specs.steps.SoundPlaces.{is_live_by, is_named_by}
use Rattle.scrub_check.specs.steps.LocatorIndex.{reclaimable_by}

-- the place is before byte p of extent e
abbrev pub LiesBefore : ℕ → ℕ → ChunkAt → Type 0
LiesBefore e p s = (s.extent ≤ e) × (s.extent ≡ e → s.offset < p)

-- the first n of some places are before byte p of extent e
abbrev pub AreBefore : List ChunkAt → ℕ → ℕ → ℕ → Type 0
AreBefore starts n e p = (k : ℕ) (d : ChunkAt) → k < n → LiesBefore e p (slice_index_or starts k d)

-- the first n of some places are below a place, and the next one, if there is one, isn't
pub record IsFirstFrom (starts : List ChunkAt) (s : ChunkAt) (n : ℕ) : Type 0 where
  pub within : n ≤ length starts
  pub before : AreBefore starts n s.extent s.offset
  pub next : (d : ChunkAt) → n < length starts → is_lt (chunk_at_cmp (slice_index_or starts n d) s) ≡ false

-- a cursor over sorted places has passed none from byte p of extent e on
pub record HasPassed (c : Cursor) (e p : ℕ) : Type 0 where
  pub sorted : IsSorted chunk_at_cmp c.starts.now
  pub within : c.at ≤ length c.starts.now
  pub before : AreBefore c.starts.now c.at e p

-- the items of extent e that are chunks at one of these places
abbrev pub live_by : List ChunkAt → ℕ → List Item → List Item
live_by starts e items = filter (is_live_by starts e) items

-- the places of the chunks of extent e that aren't among these
abbrev pub orphans_by : List ChunkAt → ℕ → List Item → List Place
orphans_by starts e items = filter (λ p. not (is_named_by starts p)) (filter_map (place_of e) items)

-- a chunk to keep: where it begins, and how many bytes its frame takes
abbrev pub kept_of : Item → KeptChunk
kept_of item = record { start = start_of item; bytes = size_of item }

-- how many bytes the chunks at one of these places take, and where each lies
pub record AreLiveBy (starts : List ChunkAt) (e : ℕ) (items : List Item) (l : LiveChunks) : Type 0 where
  pub sizes : l.bytes ≡ sum_by size_of (live_by starts e items)
  pub kept : l.kept.items ≡ map kept_of (live_by starts e items)

-- how many bytes the live chunks of an extent take, and where each lies
pub record AreLiveChunks (checked : List Checked) (f : Scanned) (l : LiveChunks) : Type 0 where
  pub sizes : l.bytes ≡ live_bytes checked f
  pub kept : l.kept.items ≡ map kept_of (live_chunks checked f)

-- the live bytes of some extents, their orphans, and, if the sizes are given, which of them may be reclaimed
pub record AreLiveAndOrphans (g : Option Geometry) (checked : List Checked) (extents : List Scanned) (t : LiveAndOrphans) : Type 0 where
  pub sizes : t.live.items ≡ map (live_bytes checked) extents
  pub garbage : t.orphans.items ≡ orphans extents checked
  pub candidates : t.reclaimable.items ≡ reclaimable_by g extents checked
