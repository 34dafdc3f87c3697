-- An extent in memory: its bytes, and which of its pages could be read.
use Rattle.std.specs.Prelude.{◌≡◌, ◌<◌, ◌+◌, ◌*◌, ℕ, List, Bool, false, Some, None, length, slice_index_or, slice_range, if◌then◌else◌, filter, not}
use Rattle.std.specs.List.{range_with_len}
use Rattle.scrub_disk.specs.Image.{Image, extent_bytes}

-- the bytes have each readable page of extent e at its place, and the marks say which pages are readable
pub record IsBuffered (image : Image) (e : ℕ) (bytes : List ℕ) (readable : List Bool) : Type 0 where
  pub size : length bytes ≡ extent_bytes image.geometry
  pub count : length readable ≡ image.geometry.pages
  pub pages : (q : ℕ) → q < image.geometry.pages →
      image.page e q
      ≡ (if slice_index_or readable q false
      then Some (slice_range bytes (q * image.geometry.page) (q * image.geometry.page + image.geometry.page))
      else None)

-- the pages that aren't among the readable ones, in ascending order
abbrev pub pages_without : List Bool → List ℕ
pages_without readable = filter (λ q. not (slice_index_or readable q false)) (range_with_len 0 (length readable))
