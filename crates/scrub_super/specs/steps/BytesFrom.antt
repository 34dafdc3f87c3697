-- Steps of the search in extent 0 from its last page to its first: the bytes from a page on, as far as a record can need
-- them, and what was found so far.
use Rattle.std.specs.Prelude.{◌≡◌, ◌<◌, ◌≤◌, ◌+◌, ◌*◌, ◌-◌, ℕ, List, false, None, Some, MatchOption, is_none, min, nat_lt, not, slice_index, slice_index_or, take, if◌then◌else◌}
use Rattle.std.specs.Prelude.{length as len}
use Rattle.scrub_disk.specs.declared.geometry.Geometry.{Geometry}
use Rattle.scrub_disk.specs.Image.{Image, image_byte, extent_bytes, AreBytesAt}
use Rattle.scrub_frame.specs.Frame.{digest_size}
use Rattle.scrub_super.specs.declared.bytes_from.BytesFrom.{BytesFrom}
use Rattle.scrub_super.specs.declared.choosing.Search.{Search}
use Rattle.scrub_super.specs.declared.choosing.Searched.{Searched}
use Rattle.scrub_super.specs.Contents.{Contents}
use Rattle.scrub_super.specs.Chosen.{RecordStandsAt}
use Rattle.scrub_super.specs.steps.RecordRead.{digest_place}
use Rattle.scrub_super.specs.steps.RecordsSeen.{AreSeenFrom, StandsFrom}

-- how many bytes the longest record has: 32 index runs, and each extent but extent 0 is retired
abbrev pub longest_record : Geometry → ℕ
longest_record g = digest_place g 32 (Some (g.extents - 1)) + digest_size

-- the bytes of extent 0 from page q on: at least as many as the longest record has, or up to one that can't be read
pub record AreBytesFrom (image : Image) (q : ℕ) (bytes : List ℕ) : Type 0 where
  pub within : q * image.geometry.page + len bytes ≤ extent_bytes image.geometry
  pub there : AreBytesAt (image_byte image 0) (q * image.geometry.page) bytes
  pub enough : len bytes < longest_record image.geometry → image_byte image 0 (q * image.geometry.page + len bytes) ≡ None

-- the same of the first `length` bytes of a buffer with room for one more page before them; they have all of page q, or there
-- are none if it can't be read
pub record HoldsBytesFrom (image : Image) (q : ℕ) (held : BytesFrom) : Type 0 where
  pub room : len held.bytes.items ≡ image.geometry.page + min (longest_record image.geometry) (extent_bytes image.geometry)
  pub short : held.length ≤ len held.bytes.items
  pub within : q * image.geometry.page + held.length ≤ extent_bytes image.geometry
  pub there : (k : ℕ) → k < held.length →
      image_byte image 0 (q * image.geometry.page + k) ≡ Some (slice_index held.bytes.items k)
  pub enough : held.length < longest_record image.geometry →
      image_byte image 0 (q * image.geometry.page + held.length) ≡ None
  pub whole : 0 < held.length → image.geometry.page ≤ held.length
  pub page_is : q < image.geometry.pages →
      image.page 0 q ≡ (if nat_lt 0 held.length then Some (take image.geometry.page held.bytes.items) else None)

-- the records on the pages from `low` on were seen, and the superblock is that of the newest one
pub record HasFoundFrom (image : Image) (low : ℕ) (search : Searched) : Type 0 where
  pub seen : AreSeenFrom (StandsFrom image) low search.seen
  pub superblock : MatchOption search.seen.newest (search.superblock ≡ None)
      (λ b. (c : Contents) × (search.superblock ≡ Some c) × RecordStandsAt image b.page c)

-- the pages from `low` on were searched: no more records were found than there are pages, and the marks say which of these can
-- be read
pub record IsSearchedFrom (image : Image) (low : ℕ) (search : Search) : Type 0 where
  pub held : HoldsBytesFrom image low search.held
  pub found : HasFoundFrom image low search.found
  pub few : search.found.seen.records + low ≤ image.geometry.pages
  pub count : len search.readable.items ≡ image.geometry.pages
  pub marks : (q : ℕ) → low ≤ q → q < image.geometry.pages →
      is_none (image.page 0 q) ≡ not (slice_index_or search.readable.items q false)

-- page q was read to the front of a buffer, and behind it are the first `kept` bytes that the buffer had
pub record IsReadInFront (image : Image) (q kept : ℕ) (old new : List ℕ) : Type 0 where
  pub bytes : List ℕ
  pub readable : image.page 0 q ≡ Some bytes
  pub size : len bytes ≡ image.geometry.page
  pub front : (k : ℕ) → k < image.geometry.page → slice_index new k ≡ slice_index bytes k
  pub behind : (k : ℕ) → k < kept → slice_index new (image.geometry.page + k) ≡ slice_index old k
