-- Raw bytes: what one read of them gives, and what an image that was loaded from them holds.
use Rattle.std.specs.Prelude.{◌≡◌, ◌<◌, ◌≤◌, ◌+◌, ◌*◌, ℕ, Bool, IsTrue, List, length, take, slice_get, Option, None, IfSome, ◌⊎◌, All, Contains}
use Rattle.scrub_disk.specs.declared.geometry.Geometry.{Geometry}
use Rattle.scrub_disk.specs.Image.{Image, AreBytesAt, HasWholePages, disk_bytes}
use Rattle.scrub_disk.specs.BytesAndMarks.{page_number}

-- the first n bytes of `out` are those at the offset, and n is 0 only at the end or if `out` has no room
pub record ReadFrom (bytes : List ℕ) (offset : ℕ) (out : List ℕ) (n : ℕ) : Type 0 where
  pub given : AreBytesAt (slice_get bytes) offset (take n out)
  pub ended : n ≡ 0 → (length out ≡ 0) ⊎ (length bytes ≤ offset)

-- a read gave the first n bytes of `out`, which are those of the raw image if its bytes are known
pub record IsRead (raw : Option (List ℕ)) (offset : ℕ) (out : List ℕ) (n : ℕ) : Type 0 where
  pub within : n ≤ length out
  pub known : IfSome raw (λ bytes. ReadFrom bytes offset out n)

-- a raw image before and after some reads: its bytes, the reads that may fail and the bound on its failures are the same,
-- and the failures are still counted
pub record IsReadOn {R : Type 0} (bytes : R → Option (List ℕ)) (fails : R → ℕ → ℕ → Bool) (most_failures failures : R → ℕ) (old new : R) : Type 0 where
  pub same_bytes : bytes new ≡ bytes old
  pub same_fails : fails new ≡ fails old
  pub same_bound : most_failures new ≡ most_failures old
  pub counted : failures old ≤ failures new

-- the byte of the raw image at which page q of extent e begins: its number among all pages, times the bytes of a page
abbrev pub raw_place : Geometry → ℕ → ℕ → ℕ
raw_place g e q = page_number g e q * g.page

-- the whole page is at a place of the bytes
pub record IsPageAt (bytes : List ℕ) (place size : ℕ) (page : List ℕ) : Type 0 where
  pub whole : length page ≡ size
  pub stands : AreBytesAt (slice_get bytes) place page

-- each readable page of the wanted extents has the bytes of its place
abbrev pub HoldsRaw : (ℕ → Type 0) → List ℕ → Image → Type 0
HoldsRaw wanted bytes image =
    (e q : ℕ) → wanted e → e < image.geometry.extents → q < image.geometry.pages →
    IfSome (image.page e q) (IsPageAt bytes (raw_place image.geometry e q) image.geometry.page)

-- the raw bytes end before page q of extent e is whole
abbrev pub IsCut : List ℕ → Geometry → ℕ → ℕ → Type 0
IsCut bytes g e q = length bytes < raw_place g e q + g.page

-- a read that asks for some of these bytes, and for no others, may fail; of a read, `fails` has the offset and how many
-- bytes it asks for
pub record MayFailIn (fails : ℕ → ℕ → Bool) (place size : ℕ) : Type 0 where
  pub offset : ℕ
  pub count : ℕ
  pub some : 0 < count
  pub from : place ≤ offset
  pub to : offset + count ≤ place + size
  pub may : IsTrue (fails offset count)

-- after a load each page of the wanted extents that is cut is unreadable, and of the others only named ones and those that
-- failures cost, listed here by their numbers: at most `failures` of them, and in each of them a read may fail
pub record LosesOnly (wanted : ℕ → Type 0) (bytes : List ℕ) (fails : ℕ → ℕ → Bool) (g : Geometry) (named : List (ℕ × ℕ)) (failures : ℕ) (image : Image) : Type 0 where
  pub cut : (e q : ℕ) → wanted e → e < g.extents → q < g.pages → IsCut bytes g e q → image.page e q ≡ None
  pub failed : List ℕ
  pub few : length failed ≤ failures
  pub each : All (λ n. MayFailIn fails (n * g.page) g.page) failed
  pub only : (e q : ℕ) → wanted e → e < g.extents → q < g.pages → image.page e q ≡ None →
      Contains named (e, q) ⊎ (IsCut bytes g e q ⊎ Contains failed (page_number g e q))

-- if the raw bytes are known, each readable page of the wanted extents has the bytes of its place, pages are lost only as
-- `LosesOnly` says, and no byte is after the last page, unless a read of the byte there may fail, and `failures` isn't 0
pub record HoldsKnown (wanted : ℕ → Type 0) (bytes : List ℕ) (fails : ℕ → ℕ → Bool) (failures : ℕ) (g : Geometry) (named : List (ℕ × ℕ)) (image : Image) : Type 0 where
  pub pages : HoldsRaw wanted bytes image
  pub lost : LosesOnly wanted bytes fails g named failures image
  pub not_too_long : (length bytes ≤ disk_bytes g) ⊎ ((0 < failures) × IsTrue (fails (disk_bytes g) 1))

-- an image of these sizes whose wanted extents were loaded with at most `failures` failed reads, of those that may fail:
-- each page is whole or unreadable, each named page of these extents is unreadable, and what is known of the raw bytes
-- holds of them as `HoldsKnown` says
pub record IsLoadedIn (wanted : ℕ → Type 0) (raw : Option (List ℕ)) (fails : ℕ → ℕ → Bool) (failures : ℕ) (g : Geometry) (named : List (ℕ × ℕ)) (image : Image) : Type 0 where
  pub geometry : image.geometry ≡ g
  pub whole : HasWholePages image
  pub unreadable : All (λ at. wanted at.0 → image.page at.0 at.1 ≡ None) named
  pub known : IfSome raw (λ bytes. HoldsKnown wanted bytes fails failures g named image)

-- every extent is wanted
abbrev pub every_extent : ℕ → Type 0
every_extent e = Unit {0}

-- an image of these sizes that was loaded so, with all its extents
abbrev pub IsLoadedWith : Option (List ℕ) → (ℕ → ℕ → Bool) → ℕ → Geometry → List (ℕ × ℕ) → Image → Type 0
IsLoadedWith = IsLoadedIn every_extent
