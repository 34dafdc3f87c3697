-- How outer frames and the index runs among them are found: from place to place of an extent, and extent by extent.
use Rattle.std.specs.Prelude.{◌≡◌, ◌⊎◌, ◌↔◌, ◌<◌, ◌≤◌, ◌+◌, ℕ, Bool, IsTrue, List, [], ◌∷◌, All, AllPairs, Contains, slice_index}
use Rattle.std.specs.Prelude.{length as len}
use Rattle.std.specs.List.{AllZip}
use Rattle.std.specs.List.Sorted.{IsStrictlySortedBy}
use Rattle.scrub_disk.specs.Image.{Image}
use Rattle.scrub_run.specs.Entry.{EntryValue}
use Rattle.scrub_run.specs.Run.{IsRun}
use Rattle.scrub_scan.specs.declared.standing.Standing.{Standing}
use Rattle.scrub_scan.specs.Extent.{Extent, FrameAt}
use Rattle.scrub_loose.specs.declared.outer.FoundRun.{FoundRun}
use Rattle.scrub_loose.specs.Outer.{BeginsWithin, IsOuterFrame, IsReadableExtent, IsRunFrame, frame_end, run_cmp}
use Rattle.scrub_loose.specs.steps.Search.{IsFrameIn}

-- ---- in an extent

-- the frame is one of extent e, at one of its first n bytes
pub record IsBefore (x : Extent) (e n : ℕ) (s : Standing) : Type 0 where
  pub in_extent : s.extent ≡ e
  pub before : s.offset < n
  pub stands : IsFrameIn x s

-- the outer frames that begin at the first n bytes of extent e
pub record AreOuterBefore (x : Extent) (e n : ℕ) (frames : List Standing) : Type 0 where
  pub are : All (IsBefore x e n) frames
  pub apart : AllPairs (λ s t. frame_end s ≤ t.offset) frames
  pub others : (t : Standing) → IsBefore x e n t → Contains frames t ⊎ ((s : Standing) × Contains frames s × BeginsWithin s t)

-- the payload of the frame is an index run of so many entries
pub record IsRunFrameIn (x : Extent) (s : Standing) (count : ℕ) : Type 0 where
  pub payload : List ℕ
  pub frame : FrameAt x s.offset s.form s.uuid payload
  pub entries : List EntryValue
  pub run : IsRun payload entries
  pub counted : count ≡ len entries

-- the index runs among frames of an extent
pub record AreRunsAmong (x : Extent) (frames : List Standing) (found : List FoundRun) : Type 0 where
  pub rise : IsStrictlySortedBy run_cmp found
  pub each : (r : FoundRun) → Contains found r ↔ (Contains frames r.frame × IsRunFrameIn x r.frame r.entries)

-- the index runs among the outer frames that begin, and end, in the first n bytes of extent e
pub record AreRunsBefore (x : Extent) (e n : ℕ) (found : List FoundRun) : Type 0 where
  pub frames : List Standing
  pub outer : AreOuterBefore x e n frames
  pub ends : All (λ s. frame_end s ≤ n) frames
  pub runs : AreRunsAmong x frames found

-- ---- in extents

-- the extents of a disk of so many, but for the first one, ascending
pub record AreExtentsBut (extents : ℕ) (es : List ℕ) : Type 0 where
  pub count : len es + 1 ≡ extents
  pub each : (k : ℕ) → k < len es → slice_index es k ≡ k + 1

-- an index run among the outer frames of one of these extents
pub record IsRunAmong (image : Image) (es : List ℕ) (r : FoundRun) : Type 0 where
  pub among : Contains es r.frame.extent
  pub outer : IsOuterFrame image r.frame
  pub run : IsRunFrame image r.frame r.entries

-- the index runs among the outer frames of these extents
pub record AreRunsIn (image : Image) (es : List ℕ) (found : List FoundRun) : Type 0 where
  pub rise : IsStrictlySortedBy run_cmp found
  pub each : (r : FoundRun) → Contains found r ↔ IsRunAmong image es r

-- what is found in an extent: its index runs, and whether each of its pages can be read
pub record WalkedValue : Type 0 where
  pub runs : List FoundRun
  pub is_readable : Bool

-- this is what is found in extent e
pub record IsWalked (image : Image) (e : ℕ) (v : WalkedValue) : Type 0 where
  pub runs : AreRunsIn image (e ∷ []) v.runs
  pub readable : IsTrue v.is_readable ↔ IsReadableExtent image e

-- what is found in each of these extents
abbrev pub AreWalked : Image → List ℕ → List WalkedValue → Type 0
AreWalked image es each = AllZip (IsWalked image) es each
