-- The status of a locator: the first line of the table that applies to it. It is judged at its own place; only the step
-- from hidden to sound asks the tiling.
use Rattle.std.specs.Prelude.{◌≡◌, ◌≢◌, ◌<◌, ◌≤◌, ◌+◌, ◌==◌, ℕ, Bool, List, MatchBool, MatchOption, map, Contains}
use Rattle.std.specs.Prelude.{length as len}
use Rattle.std.specs.List.{list_any}
use Rattle.sha2.specs.Sha256.{sha256}
use Rattle.scrub_disk.specs.declared.geometry.Geometry.{Geometry}
use Rattle.scrub_disk.specs.Image.{Image, image_byte, extent_bytes}
use Rattle.scrub_frame.specs.declared.form.Form.{Form}
use Rattle.scrub_frame.specs.declared.locator.Locator.{Locator}
use Rattle.scrub_super.specs.Plan.{PlanValue, pointer_of}
use Rattle.scrub_scan.specs.declared.item.Item.{Item}
use Rattle.scrub_scan.specs.Extent.{Extent, extent_of, FrameAt, NoFrameAt, HasGap}
use Rattle.scrub_scan.specs.Item.{start_of}
use Rattle.scrub_scan.specs.Tiling.{IsTiling}
use Rattle.scrub_check.specs.declared.statuses.status.Status.{Status}
use Rattle.scrub_check.specs.declared.statuses.status.Status.TheVariants.{OutOfRange, Retired, PastPointer, Unreadable, NoFrame, WrongUuid, WrongLength, WrongDigest, Hidden, Sound}

-- where the least frame that a locator may name would end: a plain one, with 38 bytes and a payload of its length
abbrev pub end_of : Locator → ℕ
end_of l = l.offset + l.length + 38

-- the locator's least frame would be in an extent of the disk other than extent 0, retired or not
pub record InRange (g : Geometry) (l : Locator) : Type 0 where
  pub from_one : 1 ≤ l.extent
  pub in_disk : l.extent < g.extents
  pub in_extent : end_of l ≤ extent_bytes g

-- one byte of the locator's least frame can't be read
abbrev pub HasUnreadableByte : Image → Locator → Type 0
HasUnreadableByte image l = HasGap (image_byte image l.extent) l.offset (l.length + 38)

-- the locator's least frame would be in range, at or before the pointer, and on readable pages
pub record CanStand (image : Image) (w : ℕ) (l : Locator) : Type 0 where
  pub in_range : InRange image.geometry l
  pub below : end_of l ≤ w
  pub readable : ¬ HasUnreadableByte image l

-- a frame of UUID u and payload b, of either form, is at the locator's place
pub record FindsFrame (image : Image) (w : ℕ) (l : Locator) (u b : List ℕ) : Type 0 where
  pub can : CanStand image w l
  pub form : Form
  pub frame : FrameAt (extent_of image l.extent w) l.offset form u b

-- an item of the tiling begins at a place
pub record BeginsAt (x : Extent) (p : ℕ) : Type 0 where
  pub items : List Item
  pub tiled : IsTiling x items
  pub begins : Contains (map start_of items) p

-- a frame with the locator's UUID, length and digest is at its place
pub record NamesChunk (image : Image) (w : ℕ) (l : Locator) : Type 0 where
  pub payload : List ℕ
  pub found : FindsFrame image w l l.uuid payload
  pub length : len payload ≡ l.length
  pub digest : sha256 payload ≡ l.digest

-- the status of a locator in an image under the write pointer of its extent: the first that applies, from out of range
-- on; hidden and sound name a chunk, and at a sound one's place an item begins
abbrev pub HasStatus : Image → ℕ → Locator → Status → Type 0
HasStatus image w l OutOfRange = ¬ InRange image.geometry l
HasStatus image w l Retired = ⊥
HasStatus image w l PastPointer = InRange image.geometry l × ¬ (end_of l ≤ w)
HasStatus image w l Unreadable = InRange image.geometry l × (end_of l ≤ w) × HasUnreadableByte image l
HasStatus image w l NoFrame = CanStand image w l × NoFrameAt (extent_of image l.extent w) l.offset
HasStatus image w l WrongUuid = (u : List ℕ) × ((b : List ℕ) × FindsFrame image w l u b × (u ≢ l.uuid))
HasStatus image w l WrongLength = (b : List ℕ) × FindsFrame image w l l.uuid b × (len b ≢ l.length)
HasStatus image w l WrongDigest = (b : List ℕ) × FindsFrame image w l l.uuid b × (len b ≡ l.length) × (sha256 b ≢ l.digest)
HasStatus image w l Hidden = NamesChunk image w l × ¬ BeginsAt (extent_of image l.extent w) l.offset
HasStatus image w l Sound = NamesChunk image w l × BeginsAt (extent_of image l.extent w) l.offset

-- the plan retires the extent
abbrev pub is_retired : PlanValue → ℕ → Bool
is_retired plan e = list_any (λ r. r == e) plan.retired

-- the status of a locator into a retired extent, whatever is there: out of range if it is, or else retired; no other
-- status applies
abbrev pub HasStatusInRetired : Image → Locator → Status → Type 0
HasStatusInRetired image l OutOfRange = ¬ InRange image.geometry l
HasStatusInRetired image l Retired = InRange image.geometry l
HasStatusInRetired image l _ = ⊥

-- the status of a locator by a plan: if the plan retires its extent, that in a retired extent, or else that under the
-- plan's pointer of the extent; out of range if it has none
abbrev pub HasStatusIn : Image → PlanValue → Locator → Status → Type 0
HasStatusIn image plan l status =
    MatchBool (is_retired plan l.extent) (HasStatusInRetired image l status)
    (MatchOption (pointer_of plan l.extent) (status ≡ OutOfRange) (λ w. HasStatus image w l status))

-- exactly one status applies: any two that do are one, and it can't be that none does
pub record ExactlyOne (Applies : Status → Type 0) : Type 0 where
  pub one : (s t : Status) → Applies s → Applies t → s ≡ t
  pub some : ¬ ((s : Status) → ¬ Applies s)
