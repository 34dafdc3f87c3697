-- The superblock that counts: the newest valid record of an image, and in a tie the one on the lowest page.
use Rattle.std.specs.Prelude.{◌≡◌, ◌<◌, ◌*◌, ◌↔◌, ℕ, List, Bool, Option, AllPairs, Contains, nat_lt, not, slice_get}
use Rattle.std.specs.Prelude.{length as len}
use Rattle.std.specs.List.{filter, list_any}
use Rattle.std.specs.Option.{option_map}
use Rattle.scrub_disk.specs.declared.geometry.Geometry.{Geometry}
use Rattle.scrub_disk.specs.Image.{Image, image_byte, AreBytesAt}
use Rattle.scrub_super.specs.Contents.{Contents}
use Rattle.scrub_super.specs.Record.{AreContents, record_bytes}
use Rattle.scrub_disk.specs.Image.{unreadable_pages}

-- a valid record: that of these contents begins at page q of extent 0, whole on readable pages
pub record RecordStandsAt (image : Image) (q : ℕ) (c : Contents) : Type 0 where
  pub within : q < image.geometry.pages
  pub contents : AreContents image.geometry c
  pub stands : AreBytesAt (image_byte image 0) (q * image.geometry.page) (record_bytes image.geometry c)

-- the valid records of an image, each with its page, by ascending page
pub record AreRecords (image : Image) (records : List (ℕ × Contents)) : Type 0 where
  pub rising : AllPairs (λ r s. r.0 < s.0) records
  pub exact : (q : ℕ) (c : Contents) → Contains records (q, c) ↔ RecordStandsAt image q c

-- the newest of these records: those of the greatest generation
abbrev pub newest_records : List (ℕ × Contents) → List (ℕ × Contents)
newest_records records = filter (λ r. not (list_any (λ s. nat_lt r.1.generation s.1.generation) records)) records

-- what is known of the records of an image: the sizes, the record that counts and its page, how many pages have a valid
-- record, whether there is a tie, and the unreadable pages of extent 0
pub record Choice : Type 0 where
  pub geometry : Geometry
  pub superblock : Option Contents
  pub page : Option ℕ
  pub records : ℕ
  pub tie : Bool
  pub bad_pages : List ℕ

-- each part of the choice is as it is in the image: the first of the newest records counts, and several are a
-- tie, be they equal or not
pub record IsChoice (image : Image) (choice : Choice) : Type 0 where
  pub valid : List (ℕ × Contents)
  pub are : AreRecords image valid
  pub geometry : choice.geometry ≡ image.geometry
  pub superblock : choice.superblock ≡ option_map (λ r. r.1) (slice_get (newest_records valid) 0)
  pub page : choice.page ≡ option_map (λ r. r.0) (slice_get (newest_records valid) 0)
  pub records : choice.records ≡ len valid
  pub tie : choice.tie ≡ nat_lt 1 (len (newest_records valid))
  pub bad_pages : choice.bad_pages ≡ unreadable_pages image 0
