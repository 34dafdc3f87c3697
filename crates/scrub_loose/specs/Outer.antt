-- Frames of an extent that begin within no other one, wherever its write pointer is, and the index runs among them.
use Rattle.std.specs.Prelude.{◌≡◌, ◌⊎◌, ◌↔◌, ◌<◌, ◌≤◌, ◌+◌, ℕ, List, None, All, AllPairs, Contains}
use Rattle.std.specs.Prelude.{length as len}
use Rattle.std.specs.List.Sorted.{IsStrictlySortedBy}
use Rattle.std.specs.declared.cmp.Ordering.{Ordering}
use Rattle.scrub_disk.specs.Image.{Image}
use Rattle.scrub_frame.specs.declared.locator.Locator.{Locator}
use Rattle.scrub_frame.specs.Frame.{frame_overhead}
use Rattle.scrub_run.specs.Entry.{EntryValue}
use Rattle.scrub_run.specs.Run.{IsRun}
use Rattle.scrub_scan.specs.declared.standing.Standing.{Standing}
use Rattle.scrub_scan.specs.Standing.{HasPayload, Stands}
use Rattle.scrub_loose.specs.Loose.{place_cmp}
use Rattle.scrub_loose.specs.declared.outer.FoundRun.{FoundRun}

-- ---- outer frames

-- where a frame ends: the byte behind its last one
abbrev pub frame_end : Standing → ℕ
frame_end s = s.offset + s.length + frame_overhead s.form

-- the second frame begins within the first one, behind that one's first byte
pub record BeginsWithin (s t : Standing) : Type 0 where
  pub behind : s.offset < t.offset
  pub before : t.offset < frame_end s

-- the outer frames of an extent: frames at any of its bytes, whatever its write pointer is, each behind the one before it;
-- and each other frame of the extent begins within one of them
pub record AreOuterFrames (image : Image) (e : ℕ) (frames : List Standing) : Type 0 where
  pub here : All (λ s. s.extent ≡ e) frames
  pub stand : All (Stands image) frames
  pub apart : AllPairs (λ s t. frame_end s ≤ t.offset) frames
  pub others : (t : Standing) → t.extent ≡ e → Stands image t → Contains frames t ⊎ ((s : Standing) × Contains frames s × BeginsWithin s t)

-- the frame is an outer one of its extent
pub record IsOuterFrame (image : Image) (s : Standing) : Type 0 where
  pub frames : List Standing
  pub are : AreOuterFrames image s.extent frames
  pub among : Contains frames s

-- ---- index runs

-- the payload of the frame at its place in the image is an index run of so many entries
pub record IsRunFrame (image : Image) (s : Standing) (count : ℕ) : Type 0 where
  pub payload : List ℕ
  pub has : HasPayload image s payload
  pub entries : List EntryValue
  pub run : IsRun payload entries
  pub counted : count ≡ len entries

-- an index run that is found on a disk: an outer frame of an extent other than the first one, whose payload is a run
pub record IsFoundRun (image : Image) (r : FoundRun) : Type 0 where
  pub past_first : 1 ≤ r.frame.extent
  pub outer : IsOuterFrame image r.frame
  pub run : IsRunFrame image r.frame r.entries

-- the order of found runs: that of their frames
abbrev pub run_cmp : FoundRun → FoundRun → Ordering
run_cmp a b = place_cmp a.frame b.frame

-- the found runs of a disk, all of them and no other, in strictly ascending order
pub record AreFoundRuns (image : Image) (found : List FoundRun) : Type 0 where
  pub rise : IsStrictlySortedBy run_cmp found
  pub each : (r : FoundRun) → Contains found r ↔ IsFoundRun image r

-- ---- pages

-- each page of an extent can be read
abbrev pub IsReadableExtent : Image → ℕ → Type 0
IsReadableExtent image e = (q : ℕ) → q < image.geometry.pages → ¬ (image.page e q ≡ None)

-- each page of a disk can be read
abbrev pub IsReadableDisk : Image → Type 0
IsReadableDisk image = (e : ℕ) → e < image.geometry.extents → IsReadableExtent image e

-- ---- their locators

-- the locator that a superblock lists for a frame
abbrev pub locator_of : Standing → Locator
locator_of s = record { extent = s.extent; offset = s.offset; length = s.length; uuid = s.uuid; digest = s.digest }

-- an index run is at this place of this extent, whatever the write pointer is and whether it is found or not, and this is
-- its locator
pub record IsRunThere (image : Image) (extent offset : ℕ) (l : Locator) : Type 0 where
  pub frame : Standing
  pub count : ℕ
  pub run : IsRunFrame image frame count
  pub in_extent : frame.extent ≡ extent
  pub at_offset : frame.offset ≡ offset
  pub named : l ≡ locator_of frame
