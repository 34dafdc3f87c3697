-- Copying chunks into room: what an image keeps then, and what its manifest says before and after.
use Rattle.std.specs.Prelude.{◌≡◌, ◌≢◌, ◌⊎◌, ◌<◌, ◌≤◌, ◌+◌, ◌++◌, ℕ, ⊤, true, List, [], ◌∷◌, Some, All, Contains, map}
use Rattle.std.specs.Prelude.{length as len}
use Rattle.std.specs.List.{AllZip, flat_map}
use Rattle.sha2.specs.Sha256.{sha256}
use Rattle.scrub_disk.specs.Image.{HasWholePages, Image, image_byte}
use Rattle.scrub_frame.specs.declared.form.Form.{Form}
use Rattle.scrub_frame.specs.Frame.{frame_overhead}
use Rattle.scrub_scan.specs.declared.item.Item.{Item}
use Rattle.scrub_scan.specs.declared.item.Item.TheVariants.{Chunk}
use Rattle.scrub_scan.specs.Extent.{Extent, extent_of, FrameAt}
use Rattle.scrub_scan.specs.Line.{spaced}
use Rattle.scrub_scan.specs.Scanned.{Scanned}
use Rattle.scrub_super.specs.Plan.{PlanValue, pointer_of}
use Rattle.scrub_check.specs.Live.{is_chunk}
use Rattle.scrub_loose.specs.declared.copies.BestCopy.{BestCopy}
use Rattle.scrub_loose.specs.declared.copies.BestCopy.TheVariants.{Nowhere, Loose, Spare}
use Rattle.scrub_loose.specs.Loose.{AreLoose, LooseValue}
use Rattle.scrub_found.specs.Scrubbed.{Scrubbed, IsScrubbed}
use Rattle.scrub_listings.specs.Manifest.{copy_word}
use Rattle.scrub_reclaim.specs.Reset.{IsPlanIn}
use Rattle.scrub_reclaim.specs.Room.{offers_room, place_in}

-- ---- what a copy keeps

-- extent e has room at a place: where extents are listed to be reclaimed, it has a line `room` or `last-room` with the place
pub record HasRoomAt (image : Image) (e place : ℕ) : Type 0 where
  pub found : Scrubbed
  pub scrubbed : IsScrubbed image found
  pub loose : LooseValue
  pub are_loose : AreLoose [] image found.plan loose
  pub scanned : Scanned
  pub among : Contains found.all scanned
  pub extent_is : scanned.extent ≡ e
  pub place_is : place ≡ place_in found.plan.geometry scanned
  pub fits : offers_room found.plan.geometry found.all loose found.checked scanned ≡ true

-- an extent, and a place in it
pub record RoomValue : Type 0 where
  pub extent : ℕ
  pub place : ℕ

-- the numbers of the extents
abbrev pub extents_of : List RoomValue → List ℕ
extents_of rooms = map (λ r. r.extent) rooms

-- the new plan comes from a superblock just if the old one does, it names the same runs and the same retired extents, all
-- extents but these have the same write pointer, and these one that isn't below the place of their room
pub record IsPlanAfterCopies (rooms : List RoomValue) (old new : PlanValue) : Type 0 where
  pub has : new.has_superblock ≡ old.has_superblock
  pub runs : new.runs ≡ old.runs
  pub retired : new.retired ≡ old.retired
  pub pointers : (x : ℕ) → ¬ Contains (extents_of rooms) x → pointer_of new x ≡ pointer_of old x
  pub moved : All (λ r. (w : ℕ) × (pointer_of new r.extent ≡ Some w) × (r.place ≤ w)) rooms

-- something was written into these rooms of an image of whole pages: the sizes are the same, and so are the bytes of all other
-- extents of the disk but extent 0; in the rooms' extents the bytes in front of the places are the same; and the superblock that
-- counts differs in nothing but its generation and the write pointers of the rooms' extents, which aren't below the places
pub record IsAfterCopies (rooms : List RoomValue) (before after : Image) : Type 0 where
  pub whole : HasWholePages before
  pub had : All (λ r. HasRoomAt before r.extent r.place) rooms
  pub sizes : after.geometry ≡ before.geometry
  pub others : (x p : ℕ) → x ≢ 0 → x < before.geometry.extents → ¬ Contains (extents_of rooms) x → image_byte after x p ≡ image_byte before x p
  pub kept : All (λ r. (p : ℕ) → p < r.place → image_byte after r.extent p ≡ image_byte before r.extent p) rooms
  pub old : PlanValue
  pub new : PlanValue
  pub was : IsPlanIn before old
  pub is : IsPlanIn after new
  pub plans : IsPlanAfterCopies rooms old new

-- ---- what is the same

-- from least to greatest: there is no copy, a loose one, a spare
abbrev pub rank : BestCopy → ℕ
rank Nowhere = 0
rank Loose = 1
rank Spare = 2

-- two parts of texts are equal, or the word for the best copy at the end of the line rose, from `none` to `loose` or `spare`, or from
-- `loose` to `spare`
abbrev pub IsSameOrRisen : List ℕ → List ℕ → Type 0
IsSameOrRisen a b =
    (b ≡ a) ⊎
    ((front : List ℕ) × (was is : BestCopy) × (rank was < rank is) ×
    (a ≡ front ++ spaced (copy_word was) ++ 10 ∷ []) × (b ≡ front ++ spaced (copy_word is) ++ 10 ∷ []))

-- two texts are one, but that the words for best copies at the ends of lines may have risen
pub record IsSameButRisen (a b : List ℕ) : Type 0 where
  pub parts : List (List ℕ)
  pub others : List (List ℕ)
  pub a_is : a ≡ flat_map (λ part. part) parts
  pub b_is : b ≡ flat_map (λ part. part) others
  pub each : AllZip IsSameOrRisen parts others

-- ---- what was written is found

-- a frame's form, UUID and payload
pub record WholeFrame : Type 0 where
  pub form : Form
  pub uuid : List ℕ
  pub payload : List ℕ

-- how many bytes the frame takes
abbrev pub size_in : WholeFrame → ℕ
size_in f = len f.payload + frame_overhead f.form

-- whole frames, one directly after the other from a place on, which end at or before the pointer
abbrev pub AreFramesFrom : Extent → ℕ → List WholeFrame → Type 0
AreFramesFrom x p [] = ⊤
AreFramesFrom x p (f ∷ fs) = FrameAt x p f.form f.uuid f.payload × AreFramesFrom x (p + size_in f) fs

-- each of these frames is a chunk among the items
abbrev pub AreChunksFrom : List Item → ℕ → List WholeFrame → Type 0
AreChunksFrom items p [] = ⊤
AreChunksFrom items p (f ∷ fs) =
    Contains items (Chunk f.form p (p + size_in f) f.uuid (len f.payload) (sha256 f.payload)) × AreChunksFrom items (p + size_in f) fs

-- the extent of a room was scanned before and after: each chunk that was among its items is still one, and whole frames from
-- the place on, one directly after the other, are chunks among the items
pub record HoldsCopies (after : Image) (found rest : Scrubbed) (room : RoomValue) : Type 0 where
  pub old : Scanned
  pub new : Scanned
  pub was : Contains found.all old
  pub is : Contains rest.all new
  pub old_extent : old.extent ≡ room.extent
  pub new_extent : new.extent ≡ room.extent
  pub chunks : (item : Item) → Contains old.findings.items item → is_chunk item ≡ true → Contains new.findings.items item
  pub copies : (fs : List WholeFrame) → AreFramesFrom (extent_of after room.extent new.pointer) room.place fs →
      AreChunksFrom new.findings.items room.place fs
