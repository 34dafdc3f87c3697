-- Frames at any byte of an extent, whatever its items are and wherever its write pointer is.
use Rattle.std.specs.Prelude.{◌≡◌, ◌⊎◌, ◌<◌, ◌+◌, ◌*◌, ℕ, List, slice_index}
use Rattle.std.specs.Prelude.{length as len}
use Rattle.std.specs.List.{sum}
use Rattle.scrub_disk.specs.Image.{Image, extent_bytes}
use Rattle.scrub_frame.specs.declared.frame.Head.{Head}
use Rattle.scrub_frame.specs.Frame.{frame_overhead}
use Rattle.scrub_scan.specs.Extent.{Extent, extent_of, HasGap}
use Rattle.scrub_scan.specs.Standing.{IsClaimedAt}

-- extent e of an image under a write pointer at its end
abbrev pub whole_extent : Image → ℕ → Extent
whole_extent image e = extent_of image e (extent_bytes image.geometry)

-- a frame of these fields is claimed at p, and each of its bytes can be read: so it is there, but that a seal may have
-- another digest than its payload
pub record IsReadableClaim (x : Extent) (p : ℕ) (h : Head) : Type 0 where
  pub claimed : IsClaimedAt x p h
  pub readable : ¬ HasGap x.byte p (h.length + frame_overhead h.form)

-- the length of the payload of the readable claim at p, or 0 if there is none
abbrev pub IsClaimedLength : Extent → ℕ → ℕ → Type 0
IsClaimedLength x p n = ((h : Head) × IsReadableClaim x p h × (n ≡ h.length)) ⊎ (((h : Head) → ¬ IsReadableClaim x p h) × (n ≡ 0))

-- the lengths at the first bytes of an extent, this many
pub record AreClaimedLengths (x : Extent) (count : ℕ) (lengths : List ℕ) : Type 0 where
  pub counted : len lengths ≡ count
  pub each : (p : ℕ) → p < count → IsClaimedLength x p (slice_index lengths p)

-- the payloads of the readable claims at all bytes of an extent are together more than four times as many bytes as it has
pub record HasCrowd (x : Extent) : Type 0 where
  pub lengths : List ℕ
  pub are : AreClaimedLengths x x.pointer lengths
  pub many : 4 * x.pointer < sum lengths

-- the extent is crowded, whatever its write pointer is
abbrev pub IsCrowded : Image → ℕ → Type 0
IsCrowded image e = HasCrowd (whole_extent image e)
