-- Loose copies: frames at any byte of an extent in use whose payload has what a dangling locator without a spare asks for.
use Rattle.std.specs.Prelude.{◌≡◌, ◌↔◌, ◌==◌, ◌&&◌, ◌++◌, ℕ, Bool, List, [], Contains, length, if◌then◌else◌}
use Rattle.std.specs.Ordering.{nat_cmp, ordering_then}
use Rattle.std.specs.declared.cmp.Ordering.{Ordering}
use Rattle.std.specs.List.{filter, list_any}
use Rattle.std.specs.List.Sorted.{IsStrictlyIncreasing, IsStrictlySortedBy}
use Rattle.scrub_disk.specs.Image.{Image}
use Rattle.scrub_super.specs.Plan.{PlanValue}
use Rattle.scrub_scan.specs.declared.standing.Standing.{Standing}
use Rattle.scrub_scan.specs.Scanned.{Scanned}
use Rattle.scrub_scan.specs.Standing.{Stands}
use Rattle.scrub_check.specs.declared.statuses.checked.Checked.{Checked}
use Rattle.scrub_check.specs.Spares.{AreSpares, asks_for_spares, is_copy_of, spares_of}
use Rattle.scrub_loose.specs.Anywhere.{IsCrowded}
use Rattle.scrub_loose.specs.Copies.{CopiesValue, loose_by}
use Rattle.scrub_loose.specs.declared.copies.BestCopy.{BestCopy}
use Rattle.scrub_loose.specs.declared.copies.BestCopy.TheVariants.{Nowhere, Loose, Spare}

-- ---- the frames of a disk

-- the extent is in use, and none of these, which are taken as reset
pub record IsSearched (resets : List ℕ) (plan : PlanValue) (e : ℕ) : Type 0 where
  pub in_use : Contains plan.planned e
  pub stays : ¬ Contains resets e

-- a loose frame: one at any byte of a searched extent that isn't crowded
pub record IsLooseFrame (resets : List ℕ) (image : Image) (plan : PlanValue) (s : Standing) : Type 0 where
  pub searched : IsSearched resets plan s.extent
  pub sparse : ¬ IsCrowded image s.extent
  pub stands : Stands image s

-- the order of frames: by extent, and then by their first byte
abbrev pub place_cmp : Standing → Standing → Ordering
place_cmp a b = ordering_then (nat_cmp a.extent b.extent) (nat_cmp a.offset b.offset)

-- the loose frames of a disk, and its crowded extents
pub record LooseValue : Type 0 where
  pub frames : List Standing
  pub crowded : List ℕ

-- the loose frames and the crowded ones of the searched extents of an image, all of them and no other, in strictly
-- ascending order
pub record AreLoose (resets : List ℕ) (image : Image) (plan : PlanValue) (v : LooseValue) : Type 0 where
  pub frames_rise : IsStrictlySortedBy place_cmp v.frames
  pub frames : (s : Standing) → Contains v.frames s ↔ IsLooseFrame resets image plan s
  pub crowded_rise : IsStrictlyIncreasing v.crowded
  pub crowded : (e : ℕ) → Contains v.crowded e ↔ (IsSearched resets plan e × IsCrowded image e)

-- ---- the copies of a locator

-- the payload of a named locator is gone: the locator dangles, its length isn't 0, and it has no spare
abbrev pub is_gone : List Scanned → Checked → Bool
is_gone all c = asks_for_spares c && length (spares_of all c) == 0

-- the loose copies of a named locator whose payload is gone: those of the loose frames that have what it asks for
abbrev pub loose_of : List Scanned → List Standing → Checked → List Standing
loose_of all loose c = if is_gone all c then filter (is_copy_of c.locator) loose else []

-- the copies of a named locator: its spares, or its loose copies if it has none
abbrev pub copies_for : List Scanned → List Standing → Checked → List Standing
copies_for all loose c = spares_of all c ++ loose_of all loose c

-- the best copy among some spares and loose copies
abbrev pub best_among : List Standing → List Standing → BestCopy
best_among spares loose = if length spares == 0 then (if length loose == 0 then Nowhere else Loose) else Spare

-- the best copy of a named locator
abbrev pub best_of : List Scanned → List Standing → Checked → BestCopy
best_of all loose c = best_among (spares_of all c) (loose_of all loose c)

-- ---- what is found

-- the spares of each of these named locators, and their loose copies, are those of an image, and each frame that is kept
-- is a loose copy of one of them; the crowded extents are those of the image, of which none is listed unless a payload
-- is gone
pub record AreCopies (resets : List ℕ) (image : Image) (plan : PlanValue) (all : List Scanned) (checked : List Checked) (v : CopiesValue) : Type 0 where
  pub spares : AreSpares all checked v.spares
  pub found : LooseValue
  pub are : AreLoose resets image plan found
  pub loose : (c : Checked) → Contains checked c → loose_by v c ≡ loose_of all found.frames c
  pub asked : (s : Standing) → Contains v.loose s → (c : Checked) × Contains checked c × Contains (loose_of all found.frames c) s
  pub crowded : v.crowded ≡ (if list_any (is_gone all) checked then found.crowded else [])
