-- Steps of judging the pages of extent 0: what is seen of each of them, and what follows from how far records reach.
use Rattle.std.specs.Prelude.{◌≡◌, ◌≢◌, ◌<◌, ◌≤◌, ◌+◌, ◌*◌, ◌-◌, ◌↔◌, ℕ, List, Bool, Option, Some, None, IsTrue, MatchOption, slice_get, slice_index, take, if◌then◌else◌}
use Rattle.std.specs.Prelude.{length as len}
use Rattle.scrub_disk.specs.declared.geometry.Geometry.{Geometry}
use Rattle.scrub_disk.specs.Image.{Image}
use Rattle.scrub_super.specs.declared.kind.RecordKind.{RecordKind}
use Rattle.scrub_super.specs.declared.pages.PageRecord.{PageRecord}
use Rattle.scrub_super.specs.declared.pages.SeenPage.{SeenPage}
use Rattle.scrub_super.specs.Contents.{Contents}
use Rattle.scrub_super.specs.Record.{record_bytes}
use Rattle.scrub_super.specs.Chosen.{RecordStandsAt}
use Rattle.scrub_super.specs.Pages.{HasRecord, HasStrayByte, IsHeldByte, kind_of, magic_of}

-- the image of a disk of these sizes and pages
abbrev pub image_with : Geometry → (ℕ → ℕ → Option (List ℕ)) → Image
image_with g page = record { geometry = g; page = page }

-- what is kept of the record of these contents that begins at byte `start`: kind, generation and end
pub record IsFoundOf (g : Geometry) (start : ℕ) (c : Contents) (found : PageRecord) : Type 0 where
  pub kind : found.kind ≡ kind_of c
  pub generation : found.generation ≡ c.generation
  pub to : found.to ≡ start + len (record_bytes g c)

-- what is kept of the valid record that begins at page q, or nothing if none does
abbrev pub IsFoundOnPage : Image → ℕ → Option PageRecord → Type 0
IsFoundOnPage image q (Some found) =
    (c : Contents) × RecordStandsAt image q c × IsFoundOf image.geometry (q * image.geometry.page) c found
IsFoundOnPage image q None = ¬ HasRecord image q

-- the bytes from `used` on are zero, and the one before it isn't
pub record IsUsedTo (bytes : List ℕ) (used : ℕ) : Type 0 where
  pub within : used ≤ len bytes
  pub zeros : (k : ℕ) → used ≤ k → k < len bytes → slice_index bytes k ≡ 0
  pub last : 0 < used → slice_index bytes (used - 1) ≢ 0

-- what is seen of page q by itself: the record that begins there; and of its bytes, none if it can't be read, the letters and
-- up to where they aren't zero
pub record IsSeenPage (image : Image) (q : ℕ) (seen : SeenPage) : Type 0 where
  pub found : IsFoundOnPage image q seen.found
  pub bytes : List ℕ
  pub fits : len bytes ≤ image.geometry.page
  pub readable : image.page 0 q ≡ (if seen.is_readable then Some bytes else None)
  pub letters : MatchOption seen.letters ((kind : RecordKind) → ¬ (take 4 bytes ≡ magic_of kind)) (λ kind. take 4 bytes ≡ magic_of kind)
  pub used : IsUsedTo bytes seen.used

-- what is seen of each page of extent 0, from page 0 on
pub record AreSeenPages (image : Image) (pages : List SeenPage) : Type 0 where
  pub count : len pages ≡ image.geometry.pages
  pub each : (q : ℕ) (page : SeenPage) → slice_get pages q ≡ Some page → IsSeenPage image q page

-- the greatest byte up to which a record reaches that begins on a page before q, or 0
pub record IsRecordReach (image : Image) (q reach : ℕ) : Type 0 where
  pub ends : (r : ℕ) (c : Contents) → r < q → RecordStandsAt image r c →
      r * image.geometry.page + len (record_bytes image.geometry c) ≤ reach
  pub reached : (i : ℕ) → i < reach →
      (r : ℕ) × (r < q) × ((c : Contents) × RecordStandsAt image r c × (i < r * image.geometry.page + len (record_bytes image.geometry c)))

-- what is known of page q before it is judged: what is seen of it, whether a record holds its first byte, and whether one of
-- its bytes is stray
pub record IsKnownOfPage (image : Image) (q : ℕ) (page : SeenPage) (held stray : Bool) : Type 0 where
  pub seen : IsSeenPage image q page
  pub held_is : IsTrue held ↔ IsHeldByte image (q * image.geometry.page)
  pub stray_is : HasStrayByte image q seen.bytes stray
