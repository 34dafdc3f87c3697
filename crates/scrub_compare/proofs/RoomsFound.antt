-- Where the code finds room, by sorted numbers.
use Rattle.std.proofs.Common.{◌≡◌, ◌&&◌, ℕ, Bool, true, false, List, Option, Some, None, sym, ◌∙◌, ap, if◌then◌else◌}
use Rattle.std.specs.Option.{option_and_then}
use Rattle.scrub_disk.specs.declared.geometry.Geometry.{Geometry}
use Rattle.scrub_scan.specs.AllFindings.{entry_of}
use Rattle.scrub_scan.specs.Scanned.{Scanned}
use Rattle.scrub_check.specs.declared.statuses.checked.Checked.{Checked}
use Rattle.scrub_check.specs.steps.LocatorIndex.{AreBarredExtents}
use Rattle.scrub_reclaim.specs.Room.{place_in, room_fits}
use Rattle.scrub_reclaim.specs.steps.Room.{may_grow_by}
use Rattle.scrub_reclaim.proofs.RoomLines.{grows_by}
use Rattle.scrub_compare.specs.Written.{room_of_extent, room_of}

module _ (g : Geometry) (checked : List Checked) (unsound : List ℕ) (f : Scanned) (are : AreBarredExtents checked unsound) (r : Bool)
    (is : r ≡ may_grow_by unsound f) where
  -- an extent that doesn't grow has no room
  pub no_room : r ≡ false → None ≡ room_of g checked f
  no_room barred =
      ap (λ (t : Bool). if t && room_fits g f then Some (place_in g f) else None) (sym barred ∙ is ∙ grows_by checked unsound f are)

  -- and one that does has what fits
  pub fitting_room : r ≡ true → (place : Option ℕ) → place ≡ (if room_fits g f then Some (place_in g f) else None) → place ≡ room_of g checked f
  fitting_room free place fits =
      fits
      ∙ ap (λ (t : Bool). if t && room_fits g f then Some (place_in g f) else None) (sym free ∙ is ∙ grows_by checked unsound f are)

module _ (g : Geometry) (all : List Scanned) (checked : List Checked) (x : ℕ) where
  -- A scanned extent has the room that its scan shows.
  pub room_found : (f : Scanned) (room : Option ℕ) → entry_of all x ≡ Some f → room ≡ room_of g checked f → room ≡ room_of_extent g all checked x
  room_found f room entry is = is ∙ ap (option_and_then (room_of g checked)) (sym entry)

  -- An extent that wasn't scanned has no room.
  pub room_lost : entry_of all x ≡ None → None ≡ room_of_extent g all checked x
  room_lost entry = ap (option_and_then (room_of g checked)) (sym entry)
