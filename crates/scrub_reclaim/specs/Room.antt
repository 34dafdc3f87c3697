-- Where the next frame can be put in an extent.
use Rattle.std.specs.Prelude.{◌≡◌, ◌≢◌, ◌⊎◌, ◌<◌, ◌≤◌, ◌+◌, ◌-◌, ◌*◌, ◌/◌, ◌%◌, ◌==◌, ◌&&◌, ◌||◌, ◌++◌, ℕ, Bool, true, false, nat_lt, List, [], ◌∷◌, Some, None, All, codes, map, not, if◌then◌else◌}
use Rattle.std.specs.Fmt.{decimal}
use Rattle.std.specs.List.{flat_map, list_all, list_any}
use Rattle.std.specs.Option.{option_map_or}
use Rattle.scrub_disk.specs.declared.geometry.Geometry.{Geometry}
use Rattle.scrub_disk.specs.Image.{Image, image_byte, extent_bytes}
use Rattle.scrub_scan.specs.declared.item.Item.{Item}
use Rattle.scrub_scan.specs.declared.standing.Standing.{Standing}
use Rattle.scrub_scan.specs.Extent.{extent_of}
use Rattle.scrub_scan.specs.Line.{spaced}
use Rattle.scrub_scan.specs.Scanned.{Scanned}
use Rattle.scrub_scan.specs.Tiling.{IsTiling}
use Rattle.scrub_check.specs.declared.statuses.checked.Checked.{Checked}
use Rattle.scrub_check.specs.declared.statuses.status.Status.TheVariants.{Sound}
use Rattle.scrub_check.specs.Candidates.{CandidateValue, has_sound_alone}
use Rattle.scrub_check.specs.Live.{is_chunk}
use Rattle.scrub_loose.specs.Loose.{LooseValue, loose_of}
use Rattle.scrub_found.specs.Scrubbed.{is_clean_extent, is_clean_item}
use Rattle.scrub_reclaim.specs.Doubts.{crowded_now}

-- the last of some items is a chunk, of either form
abbrev pub ends_in_chunk : List Item → Bool
ends_in_chunk [] = false
ends_in_chunk (item ∷ []) = is_chunk item
ends_in_chunk (item ∷ next ∷ items) = ends_in_chunk (next ∷ items)

-- the place for the next frame, by the bytes of a page, the write pointer and the items below it: the pointer if it is at a
-- page boundary or directly after a chunk, or else the next page boundary
abbrev pub next_place : ℕ → ℕ → List Item → ℕ
next_place page w items = if (w % page == 0) || ends_in_chunk items then w else (w / page + 1) * page

-- ---- the lines

-- a chunk can be put into a scanned extent: each page can be read, each item is a chunk or zeros, and each named locator with
-- its number is sound
abbrev pub may_grow : List Checked → Scanned → Bool
may_grow checked f = is_clean_extent f && has_sound_alone checked f

-- the place for the next frame in a scanned extent
abbrev pub place_in : Geometry → Scanned → ℕ
place_in g f = next_place g.page f.pointer f.findings.items

-- how many bytes there are from that place to the end of the extent
abbrev pub room_in : Geometry → Scanned → ℕ
room_in g f = extent_bytes g - place_in g f

-- from a scanned extent's pointer to a place there is nothing but zeros: the first nonzero byte isn't in front of the place
abbrev pub is_zero_to : ℕ → Scanned → Bool
is_zero_to place f = option_map_or (λ first. not (nat_lt first place)) f.findings.tail_first true

-- from a scanned extent's pointer to the place for the next frame there is nothing but zeros, and a frame of no payload,
-- 38 bytes, fits from there on
abbrev pub room_fits : Geometry → Scanned → Bool
room_fits g f = is_zero_to (place_in g f) f && not (nat_lt (room_in g f) 38)

-- a scanned extent has room at the place for the next frame
abbrev pub has_room : Geometry → List Checked → Scanned → Bool
has_room g checked f = may_grow checked f && room_fits g f

-- the extent holds a loose copy of one of these named locators
abbrev pub holds_loose : List Scanned → List Standing → List Checked → ℕ → Bool
holds_loose all loose checked e = list_any (λ c. list_any (λ s. s.extent == e) (loose_of all loose c)) checked

-- nothing may be put into the extent: it holds a loose copy of a named locator, or it is crowded while a payload is gone
abbrev pub is_closed : List Scanned → LooseValue → List Checked → ℕ → Bool
is_closed all loose checked e = holds_loose all loose.frames checked e || list_any (λ n. n == e) (crowded_now all loose.crowded checked)

-- a scanned extent has room that is offered: it has room, and isn't closed
abbrev pub offers_room : Geometry → List Scanned → LooseValue → List Checked → Scanned → Bool
offers_room g all loose checked f = not (is_closed all loose checked f.extent) && has_room g checked f

-- the first word of the line of an extent with room, by whether the extent is listed to be reclaimed
abbrev pub room_word : Bool → List ℕ
room_word true = codes "last-room"
room_word false = codes "room"

-- the line of an extent with room: its first word, `EXTENT OFFSET BYTES` and a line feed
abbrev pub room_line : Bool → ℕ → ℕ → ℕ → List ℕ
room_line is_listed extent place bytes =
    room_word is_listed ++ spaced (decimal extent) ++ spaced (decimal place) ++ spaced (decimal bytes) ++ 10 ∷ []

-- the line of a scanned extent, if it has room that is offered, or else nothing
abbrev pub room_if : Bool → Geometry → List Scanned → LooseValue → List Checked → Scanned → List ℕ
room_if is_listed g all loose checked f =
    if offers_room g all loose checked f then room_line is_listed f.extent (place_in g f) (room_in g f) else []

-- the extent is among the listed ones, or it isn't, as wanted
abbrev pub is_listed_as : Bool → List ℕ → ℕ → Bool
is_listed_as true listed e = list_any (λ n. n == e) listed
is_listed_as false listed e = not (list_any (λ n. n == e) listed)

-- the line of a scanned extent that is listed, or isn't, as wanted, if it has room that is offered, or else nothing
abbrev pub room_where : Bool → Geometry → List Scanned → LooseValue → List Checked → List ℕ → Scanned → List ℕ
room_where is_listed g all loose checked listed f =
    if is_listed_as is_listed listed f.extent then room_if is_listed g all loose checked f else []

-- the lines of the scanned extents with such room that are listed, or aren't, as wanted, ascending
abbrev pub rooms_where : Bool → Geometry → List Scanned → LooseValue → List Checked → List ℕ → List ℕ
rooms_where is_listed g all loose checked listed = flat_map (room_where is_listed g all loose checked listed) all

-- the lines of the extents with such room that aren't listed, and then those of the listed ones
abbrev pub room_lines : Geometry → List Scanned → LooseValue → List Checked → List CandidateValue → List ℕ
room_lines g all loose checked candidates =
    rooms_where false g all loose checked (map (λ a. a.extent) candidates) ++ rooms_where true g all loose checked (map (λ a. a.extent) candidates)

-- ---- what is there

-- each byte of extent e can be read; under the pointer w each item is a chunk or zeros; each of these named
-- locators with its number is sound; the place is the pointer, if that is at a page boundary or the last item
-- is a chunk, or else the next page boundary; each byte from the pointer to it is zero; and a frame of no
-- payload, 38 bytes, fits from there on
pub record IsRoom (image : Image) (checked : List Checked) (e w place : ℕ) : Type 0 where
  pub readable : (p : ℕ) → p < extent_bytes image.geometry → image_byte image e p ≢ None
  pub items : List Item
  pub tiled : IsTiling (extent_of image e w) items
  pub clean : list_all is_clean_item items ≡ true
  pub sound : All (λ c. c.locator.extent ≡ e → c.status ≡ Sound) checked
  pub at_pointer : (w % image.geometry.page ≡ 0) ⊎ (ends_in_chunk items ≡ true) → place ≡ w
  pub at_bound : w % image.geometry.page ≢ 0 → ends_in_chunk items ≡ false →
      (w < place) × (place < w + image.geometry.page) × (place % image.geometry.page ≡ 0)
  pub zeros : (p : ℕ) → w ≤ p → p < place → image_byte image e p ≡ Some 0
  pub fits : place + 38 ≤ extent_bytes image.geometry
