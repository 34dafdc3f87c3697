-- What follows if what was written to a disk between two images is safe.
use Rattle.std.specs.Prelude.{◌≡◌, ◌≢◌, ◌<◌, ◌≤◌, ◌++◌, ℕ, true, List, All, Contains}
use Rattle.std.specs.List.{AllZip, flat_map}
use Rattle.scrub_disk.specs.Image.{Image, image_byte}
use Rattle.scrub_super.specs.Plan.{PlanValue}
use Rattle.scrub_scan.specs.declared.item.Item.{Item}
use Rattle.scrub_scan.specs.Scanned.{Scanned}
use Rattle.scrub_check.specs.declared.statuses.checked.Checked.{Checked}
use Rattle.scrub_check.specs.Live.{is_chunk}
use Rattle.scrub_loose.specs.Anywhere.{IsCrowded}
use Rattle.scrub_found.specs.Scrubbed.{Scrubbed}
use Rattle.scrub_listings.specs.Manifest.{retired_line, runs_line, total_line}
use Rattle.scrub_reclaim.specs.Copy.{IsSameOrRisen}
use Rattle.scrub_reclaim.specs.Reset.{IsPlanIn}
use Rattle.scrub_compare.specs.Written.{pointer_in}
use Rattle.scrub_compare.specs.Compare.{IsComparison}

-- two images have the same sizes, and by their comparison, with these extents to be reset, what was written
-- in between is safe
pub record IsSafe (resets : List ℕ) (before after : Image) : Type 0 where
  pub sizes : after.geometry ≡ before.geometry
  pub text : List ℕ
  pub safe : IsComparison resets before after text true

-- no named locator points into one of these extents
abbrev pub NonePointsInto : List ℕ → List Checked → Type 0
NonePointsInto resets checked = All (λ c. ¬ Contains resets c.locator.extent) checked

-- each byte below the write pointer that an extent had is what it was, or still can't be read; `found_before` is
-- what is found in the earlier image
abbrev pub KeepsBytes : Image → Image → Scrubbed → Type 0
KeepsBytes before after found_before = (x p : ℕ) → p < pointer_in found_before.plan x → image_byte after x p ≡ image_byte before x p

-- an extent was scanned again, and each chunk among its items is among the new ones: the same place, form,
-- UUID, length and digest
pub record HasItsChunks (found_after : Scrubbed) (f : Scanned) : Type 0 where
  pub now : Scanned
  pub among : Contains found_after.all now
  pub extent_is : now.extent ≡ f.extent
  pub chunks : (item : Item) → Contains f.findings.items item → is_chunk item ≡ true → Contains now.findings.items item

-- each scanned extent that isn't one of these still has its chunks
abbrev pub KeepsChunks : List ℕ → Scrubbed → Scrubbed → Type 0
KeepsChunks resets found_before found_after = All (λ f. ¬ Contains resets f.extent → HasItsChunks found_after f) found_before.all

-- two manifests say that no run is lost, and are the same, except that in the second one fewer runs may be
-- hidden, and the last words of lines may have risen, from `none` over `loose` to `spare`
pub record IsSameButMore (a b : List ℕ) : Type 0 where
  pub retired : List ℕ
  pub hidden : ℕ
  pub hidden_now : ℕ
  pub shards : ℕ
  pub locators : ℕ
  pub parts : List (List ℕ)
  pub others : List (List ℕ)
  pub fewer : hidden_now ≤ hidden
  pub each : AllZip IsSameOrRisen parts others
  pub a_is : a ≡ retired_line retired ++ runs_line 0 hidden ++ flat_map (λ part. part) parts ++ total_line shards locators
  pub b_is : b ≡ retired_line retired ++ runs_line 0 hidden_now ++ flat_map (λ part. part) others ++ total_line shards locators

-- the earlier superblock was written again: the sizes are those of the later image, so are the bytes of all
-- extents but extent 0, and the superblock that counts names the runs, the retired extents and the write
-- pointers of the earlier one
pub record IsUndone (before after undone : Image) : Type 0 where
  pub sizes : undone.geometry ≡ after.geometry
  pub bytes : (x p : ℕ) → x ≢ 0 → x < after.geometry.extents → image_byte undone x p ≡ image_byte after x p
  pub old : PlanValue
  pub new : PlanValue
  pub was : IsPlanIn before old
  pub is : IsPlanIn undone new
  pub has : new.has_superblock ≡ old.has_superblock
  pub runs : new.runs ≡ old.runs
  pub retired : new.retired ≡ old.retired
  pub pointers : new.pointers ≡ old.pointers

-- no extent in use of an image is crowded
pub record NoneIsCrowded (image : Image) : Type 0 where
  pub plan : PlanValue
  pub is : IsPlanIn image plan
  pub sparse : All (λ e. ¬ IsCrowded image e) plan.planned
