-- An extent in memory, and claims in its bytes.
use Rattle.std.specs.Prelude.{◌≡◌, ◌<◌, ◌≤◌, ◌+◌, ◌*◌, ◌/◌, ◌^◌, ◌&&◌, ◌++◌, ◌↔◌, ℕ, IsTrue, Bool, true, false, List, Some, None, nat_lt, slice_index, slice_index_or, take, drop, if◌then◌else◌}
use Rattle.std.specs.Prelude.{length as len}
use Rattle.scrub_disk.specs.Image.{Image}
use Rattle.scrub_frame.specs.declared.frame.Head.{Head}
use Rattle.scrub_frame.specs.Frame.{close_size, frame_overhead, head, head_size, mark, payload_start}
use Rattle.scrub_scan.specs.Extent.{Extent}
use Rattle.scrub_loose.specs.declared.held.HeldExtent.{HeldExtent}

-- s is the first of the readable pages in a row that end with page q, or the page after q if q can't be read
pub record IsSince (readable : List Bool) (q s : ℕ) : Type 0 where
  pub low : s ≤ q + 1
  pub each : (k : ℕ) → s ≤ k → k ≤ q → slice_index_or readable k false ≡ true
  pub lost : (k : ℕ) → s ≡ k + 1 → slice_index_or readable k false ≡ false

-- the same for each page
pub record AreSince (readable : List Bool) (since : List ℕ) : Type 0 where
  pub count : len since ≡ len readable
  pub each : (q : ℕ) → q < len readable → IsSince readable q (slice_index since q)

-- the extent that bytes and marks of its pages spell, under a pointer at its end
abbrev pub extent_by : ℕ → List ℕ → List Bool → Extent
extent_by page bytes readable = record {
  byte = λ p. if nat_lt p (len bytes) && slice_index_or readable (p / page) false then Some (slice_index bytes p) else None;
  page = page;
  pointer = len bytes;
}

-- the extent in memory
abbrev pub extent_held : HeldExtent → Extent
extent_held h = extent_by h.page h.bytes.items h.readable.items

-- what is kept of an extent in memory is of its sizes and its pages
pub record IsHeld (h : HeldExtent) : Type 0 where
  pub positive : 1 ≤ h.page
  pub few : len h.bytes.items ≤ 2 ^ 26
  pub size : len h.bytes.items ≡ h.page * len h.readable.items
  pub since : AreSince h.readable.items h.since.items

-- the marks say which pages of extent e can be read
pub record AreMarks (image : Image) (e : ℕ) (readable : List Bool) : Type 0 where
  pub count : len readable ≡ image.geometry.pages
  pub each : (q : ℕ) → q < image.geometry.pages → IsTrue (slice_index_or readable q false) ↔ (¬ (image.page e q ≡ None))

-- the bytes begin with a head, and what closes the frame that it claims is where that would end
pub record BeginsWithClaim (bytes : List ℕ) (h : Head) : Type 0 where
  pub sixteen : len h.uuid ≡ 16
  pub short : h.length < 2 ^ 32
  pub head_is : take head_size bytes ≡ head h.form h.uuid h.length
  pub enough : h.length + frame_overhead h.form ≤ len bytes
  pub close_is : take (close_size h.form) (drop (payload_start h.form + h.length) bytes) ≡ h.uuid ++ mark h.form
