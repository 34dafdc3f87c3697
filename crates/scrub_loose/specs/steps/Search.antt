-- How loose frames are searched for: place by place, and extent by extent.
use Rattle.std.specs.Prelude.{◌≡◌, ◌↔◌, ◌<◌, ℕ, Bool, true, List, [], ◌∷◌, Contains, ◌==◌, not}
use Rattle.std.specs.Prelude.{length as len}
use Rattle.std.specs.List.{AllZip, filter, list_any}
use Rattle.std.specs.List.Sorted.{IsStrictlyIncreasing, IsStrictlySortedBy}
use Rattle.sha2.specs.Sha256.{sha256}
use Rattle.scrub_disk.specs.Image.{Image}
use Rattle.scrub_scan.specs.declared.standing.Standing.{Standing}
use Rattle.scrub_scan.specs.Extent.{Extent, FrameAt}
use Rattle.scrub_scan.specs.Standing.{Stands}
use Rattle.scrub_loose.specs.Anywhere.{IsCrowded}
use Rattle.scrub_loose.specs.Loose.{LooseValue, place_cmp}

-- ---- at a place

-- this is the frame at its place, with its payload's length and digest
pub record IsFrameIn (x : Extent) (s : Standing) : Type 0 where
  pub payload : List ℕ
  pub frame : FrameAt x s.offset s.form s.uuid payload
  pub length : s.length ≡ len payload
  pub digest : s.digest ≡ sha256 payload

-- the frame is that at p, in extent e
pub record IsFrameHere (x : Extent) (e p : ℕ) (s : Standing) : Type 0 where
  pub in_extent : s.extent ≡ e
  pub at_place : s.offset ≡ p
  pub stands : IsFrameIn x s

-- a frame that passes a test, at one of the first n bytes of extent e
pub record IsFrameBefore (test : Standing → Bool) (x : Extent) (e n : ℕ) (s : Standing) : Type 0 where
  pub in_extent : s.extent ≡ e
  pub before : s.offset < n
  pub stands : IsFrameIn x s
  pub passes : test s ≡ true

-- the frames that pass a test at the first n bytes of extent e, all of them and no other, ascending
pub record AreFramesBefore (test : Standing → Bool) (x : Extent) (e n : ℕ) (frames : List Standing) : Type 0 where
  pub rise : IsStrictlySortedBy place_cmp frames
  pub each : (s : Standing) → Contains frames s ↔ IsFrameBefore test x e n s

-- ---- in extents

-- a frame that passes a test, in one of these extents, which isn't crowded
pub record IsFrameAmong (test : Standing → Bool) (image : Image) (es : List ℕ) (s : Standing) : Type 0 where
  pub among : Contains es s.extent
  pub sparse : ¬ IsCrowded image s.extent
  pub stands : Stands image s
  pub passes : test s ≡ true

-- the frames in these extents that pass a test, and the crowded ones of these
pub record AreFoundIn (test : Standing → Bool) (image : Image) (es : List ℕ) (v : LooseValue) : Type 0 where
  pub frames_rise : IsStrictlySortedBy place_cmp v.frames
  pub frames : (s : Standing) → Contains v.frames s ↔ IsFrameAmong test image es s
  pub crowded_rise : IsStrictlyIncreasing v.crowded
  pub crowded : (e : ℕ) → Contains v.crowded e ↔ (Contains es e × IsCrowded image e)

-- what was found in each of these extents
abbrev pub AreFoundInEach : (Standing → Bool) → Image → List ℕ → List LooseValue → Type 0
AreFoundInEach test image es each = AllZip (λ e v. AreFoundIn test image (e ∷ []) v) es each

-- these extents but for those that are taken as reset
abbrev pub searched : List ℕ → List ℕ → List ℕ
searched resets es = filter (λ e. not (list_any (λ r. r == e) resets)) es
