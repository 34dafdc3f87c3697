-- The frame at a place of an extent, and its payload; and what a frame's two ends alone say of it.
use Rattle.std.specs.Prelude.{◌≡◌, ◌<◌, ◌≤◌, ◌+◌, ◌^◌, ◌++◌, ℕ, List}
use Rattle.std.specs.Prelude.{length as len}
use Rattle.sha2.specs.Sha256.{sha256}
use Rattle.scrub_disk.specs.Image.{Image, extent_bytes, AreBytesAt}
use Rattle.scrub_frame.specs.declared.form.Form.{Form}
use Rattle.scrub_frame.specs.declared.form.Form.TheVariants.{Plain}
use Rattle.scrub_frame.specs.declared.frame.Head.{Head}
use Rattle.scrub_frame.specs.Frame.{head, mark, payload_start, frame_overhead}
use Rattle.scrub_scan.specs.declared.standing.Standing.{Standing}
use Rattle.scrub_scan.specs.Extent.{Extent, extent_of, FrameAt}

-- the frame at its place has this payload, and ends at or before the pointer
pub record IsFrameOf (image : Image) (pointer : ℕ) (s : Standing) (payload : List ℕ) : Type 0 where
  pub frame : FrameAt (extent_of image s.extent pointer) s.offset s.form s.uuid payload
  pub length : s.length ≡ len payload
  pub digest : s.digest ≡ sha256 payload

-- the frame is at this place of this extent, under this pointer, with its UUID and its payload's length and digest
pub record IsStandingAt (image : Image) (pointer extent offset : ℕ) (s : Standing) : Type 0 where
  pub in_extent : s.extent ≡ extent
  pub at_offset : s.offset ≡ offset
  pub payload : List ℕ
  pub frame : IsFrameOf image pointer s payload

-- the frame at its place in the image has this payload, and ends in its extent, past the write pointer or not
pub record HasPayload (image : Image) (s : Standing) (payload : List ℕ) : Type 0 where
  pub in_disk : s.extent < image.geometry.extents
  pub frame : IsFrameOf image (extent_bytes image.geometry) s payload

-- the frame is at its place in the image, with some payload
pub record Stands (image : Image) (s : Standing) : Type 0 where
  pub payload : List ℕ
  pub has : HasPayload image s payload

-- a frame of these fields is claimed at p: its head is there, it would end at or before the pointer, and what closes it
-- is where it would end
pub record IsClaimedAt (x : Extent) (p : ℕ) (h : Head) : Type 0 where
  pub sixteen : len h.uuid ≡ 16
  pub short : h.length < 2 ^ 32
  pub head_stands : AreBytesAt x.byte p (head h.form h.uuid h.length)
  pub fits : p + h.length + frame_overhead h.form ≤ x.pointer
  pub close_stands : AreBytesAt x.byte (p + h.length + payload_start h.form) (h.uuid ++ mark h.form)

-- any frame at p has these fields
abbrev pub IsOnlyFrame : Extent → ℕ → Head → Type 0
IsOnlyFrame x p h = (f : Form) (u b : List ℕ) → FrameAt x p f u b → (h.form ≡ f) × (h.uuid ≡ u) × (h.length ≡ len b)

-- a plain frame of this UUID and this length is at p
pub record HasPlainFrame (x : Extent) (p : ℕ) (h : Head) : Type 0 where
  pub payload : List ℕ
  pub frame : FrameAt x p Plain h.uuid payload
  pub length : h.length ≡ len payload
