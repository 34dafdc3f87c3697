-- Which bytes were written where nothing may be, between two images of a disk.
use Rattle.std.specs.Prelude.{◌≡◌, ◌≢◌, ◌⊎◌, ◌<◌, ◌≤◌, ◌+◌, ℕ, List, Option, Some, None, MatchOption, slice_get, if◌then◌else◌}
use Rattle.std.specs.Prelude.{length as len}
use Rattle.std.specs.Option.{option_and_then, unwrap_or}
use Rattle.scrub_disk.specs.declared.geometry.Geometry.{Geometry}
use Rattle.scrub_disk.specs.Image.{Image, image_byte}
use Rattle.scrub_super.specs.Pages.{IsHeldByte}
use Rattle.scrub_super.specs.Plan.{PlanValue, pointer_of}
use Rattle.scrub_scan.specs.AllFindings.{entry_of}
use Rattle.scrub_scan.specs.Scanned.{Scanned}
use Rattle.scrub_check.specs.declared.statuses.checked.Checked.{Checked}
use Rattle.scrub_found.specs.Scrubbed.{Scrubbed}
use Rattle.scrub_reclaim.specs.Room.{has_room, place_in}

-- ---- what may change

-- byte p of extent x changed: it can be read in one of the images alone, or in both and is another one
abbrev pub IsChanged : Image → Image → ℕ → ℕ → Type 0
IsChanged before after x p = image_byte before x p ≢ image_byte after x p

-- the byte can be read in both images, and is zero in the later one
pub record IsZeroNow (before after : Image) (x p : ℕ) : Type 0 where
  pub was_readable : image_byte before x p ≢ None
  pub is_zero : image_byte after x p ≡ Some 0

-- a byte of extent 0 may change if it is zero now, or a valid record of the later image holds it
abbrev pub MayChangeInRecords : Image → Image → ℕ → Type 0
MayChangeInRecords before after p = IsZeroNow before after 0 p ⊎ IsHeldByte after p

-- a byte of an extent with room at a place may change if it isn't in front of the place, and is below the write pointer now or
-- zero now; none may in an extent without room
abbrev pub MayChangeInRoom : Image → Image → Option ℕ → ℕ → ℕ → ℕ → Type 0
MayChangeInRoom before after room pointer x p =
    MatchOption room ⊥ (λ place. (place ≤ p) × ((p < pointer) ⊎ IsZeroNow before after x p))

-- ---- rooms and pointers

-- the place where a scanned extent has room, if it has
abbrev pub room_of : Geometry → List Checked → Scanned → Option ℕ
room_of g checked f = if has_room g checked f then Some (place_in g f) else None

-- the place where extent x has room, if it has, by the sizes, what was scanned and the named locators
abbrev pub room_of_extent : Geometry → List Scanned → List Checked → ℕ → Option ℕ
room_of_extent g all checked x = option_and_then (room_of g checked) (entry_of all x)

-- the place where extent x has room, if it has, by what is found on a disk
abbrev pub room_at : Scrubbed → ℕ → Option ℕ
room_at found x = room_of_extent found.plan.geometry found.all found.checked x

-- the write pointer of extent x, retired or not, or 0 where there is none
abbrev pub pointer_in : PlanValue → ℕ → ℕ
pointer_in plan x = unwrap_or (pointer_of plan x) 0

-- ---- the first byte

-- this is the least number of which something holds, or it holds of none
abbrev pub IsLeastNumber : (ℕ → Type 0) → Option ℕ → Type 0
IsLeastNumber P least = MatchOption least ((p : ℕ) → ¬ P p) (λ p. P p × ((q : ℕ) → q < p → ¬ P q))

-- byte p of extent 0 changed and may not
abbrev pub IsWrittenInRecords : Image → Image → ℕ → Type 0
IsWrittenInRecords before after p = IsChanged before after 0 p × (¬ MayChangeInRecords before after p)

-- byte p of another extent changed and may not, by where that has room, and by its write pointer now
abbrev pub IsWrittenIn : Image → Image → Option ℕ → ℕ → ℕ → ℕ → Type 0
IsWrittenIn before after room pointer x p = IsChanged before after x p × (¬ MayChangeInRoom before after room pointer x p)

-- for each extent from 1 on, the first byte that changed and may not, if there is one
pub record AreFirstWritten (before after : Image) (found_before found_after : Scrubbed) (firsts : List (Option ℕ)) : Type 0 where
  pub count : len firsts + 1 ≡ before.geometry.extents
  pub each : (k : ℕ) (first : Option ℕ) → slice_get firsts k ≡ Some first →
      IsLeastNumber (IsWrittenIn before after (room_at found_before (k + 1)) (pointer_in found_after.plan (k + 1)) (k + 1)) first
