-- One extent under its write pointer, and what is at a place of it.
use Rattle.std.specs.Prelude.{◌≡◌, ◌<◌, ◌≤◌, ◌+◌, ◌*◌, ◌/◌, ℕ, min, List, length, Option, Some, None}
use Rattle.scrub_disk.specs.Image.{Image, image_byte, AreBytesAt}
use Rattle.scrub_frame.specs.declared.form.Form.{Form}
use Rattle.scrub_frame.specs.Frame.{frame_of, magic, frame_overhead, HasFrame}

-- an extent under its write pointer: each byte, or None if its page is unreadable or not in the extent; the size of a
-- page; and the pointer, both in bytes
pub record Extent : Type 0 where
  pub byte : ℕ → Option ℕ
  pub page : ℕ
  pub pointer : ℕ

-- extent e of an image, under the pointer w
abbrev pub extent_of : Image → ℕ → ℕ → Extent
extent_of image e w = record { byte = image_byte image e; page = image.geometry.page; pointer = w }

-- the frame of form f, UUID u and payload b is at p, all of it readable, and ends at or before the pointer
pub record FrameAt (x : Extent) (p : ℕ) (f : Form) (u b : List ℕ) : Type 0 where
  pub has_frame : HasFrame u b
  pub fits : p + length b + frame_overhead f ≤ x.pointer
  pub stands : AreBytesAt x.byte p (frame_of f u b)

-- the bound above p: the next page boundary, or the pointer if that comes first
abbrev pub bound_above : Extent → ℕ → ℕ
bound_above x p = min x.pointer ((p / x.page + 1) * x.page)

-- no frame of either form is at p
abbrev pub NoFrameAt : Extent → ℕ → Type 0
NoFrameAt x p = (f : Form) (u b : List ℕ) → ¬ FrameAt x p f u b

-- all bytes from p to the bound are zero
abbrev pub IsZero : Extent → ℕ → Type 0
IsZero x p = (i : ℕ) → p ≤ i → i < bound_above x p → x.byte i ≡ Some 0

-- the magic of one of the forms is at p, before the bound
abbrev pub HasMagic : Extent → ℕ → Type 0
HasMagic x p = (p + 2 ≤ bound_above x p) × ((f : Form) × AreBytesAt x.byte p (magic f))

-- one of the n bytes from p on can't be read
pub record HasGap (at : ℕ → Option ℕ) (p n : ℕ) : Type 0 where
  pub place : ℕ
  pub low : p ≤ place
  pub high : place < p + n
  pub unreadable : at place ≡ None
