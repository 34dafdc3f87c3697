-- What each page of extent 0 holds of superblocks.
use Rattle.std.specs.Prelude.{◌≡◌, ◌<◌, ◌≤◌, ◌+◌, ◌*◌, ◌||◌, ℕ, List, Bool, true, false, Some, None, codes, if◌then◌else◌, nat_lt, take, slice_get}
use Rattle.std.specs.Prelude.{length as len}
use Rattle.std.specs.List.{list_any}
use Rattle.std.specs.Option.{option_map_or}
use Rattle.scrub_disk.specs.Image.{Image}
use Rattle.scrub_super.specs.declared.kind.RecordKind.{RecordKind}
use Rattle.scrub_super.specs.declared.kind.RecordKind.TheVariants.{Ssb1, Ssb2}
use Rattle.scrub_super.specs.declared.pages.Rank.{Rank}
use Rattle.scrub_super.specs.declared.pages.Rank.TheVariants.{Tie, Counts, Older}
use Rattle.scrub_super.specs.declared.pages.SuperblockPage.{SuperblockPage}
use Rattle.scrub_super.specs.declared.pages.SuperblockPage.TheVariants.{Lost, Record, Damaged, Stray, Held}
use Rattle.scrub_super.specs.Contents.{Contents}
use Rattle.scrub_super.specs.Record.{record_bytes}
use Rattle.scrub_super.specs.Chosen.{AreRecords, RecordStandsAt, newest_records}

-- the four bytes that a record of a kind begins with
abbrev pub magic_of : RecordKind → List ℕ
magic_of Ssb1 = codes "SSB1"
magic_of Ssb2 = codes "SSB2"

-- the kind of the record of these contents: the second if retired extents are listed
abbrev pub kind_of : Contents → RecordKind
kind_of c = option_map_or (λ _. Ssb2) c.retired Ssb1

-- how new a record of this generation is: older than another one, or else in a tie, or the one that counts
abbrev pub IsRank : Image → ℕ → Rank → Type 0
IsRank image generation rank =
    (records : List (ℕ × Contents)) × AreRecords image records ×
    (rank ≡ (if list_any (λ r. nat_lt generation r.1.generation) records then Older
    else if nat_lt 1 (len (newest_records records)) then Tie else Counts))

-- a valid record begins at the page
abbrev pub HasRecord : Image → ℕ → Type 0
HasRecord image q = (c : Contents) × RecordStandsAt image q c

-- a valid record holds byte i of extent 0: the byte is at or after the start of the page that the record begins on, and before
-- the record's end
pub record IsHeldByte (image : Image) (i : ℕ) : Type 0 where
  pub start : ℕ
  pub contents : Contents
  pub stands : RecordStandsAt image start contents
  pub from : start * image.geometry.page ≤ i
  pub to : i < start * image.geometry.page + len (record_bytes image.geometry contents)

-- each byte of page q other than zero is held by a valid record
abbrev pub AreHeldBytes : Image → ℕ → List ℕ → Type 0
AreHeldBytes image q bytes = (k b : ℕ) → slice_get bytes k ≡ Some b → ¬ (b ≡ 0) → IsHeldByte image (q * image.geometry.page + k)

-- the truth value says whether page q has a stray byte: one other than zero that no valid record holds
abbrev pub HasStrayByte : Image → ℕ → List ℕ → Bool → Type 0
HasStrayByte image q bytes true = ¬ AreHeldBytes image q bytes
HasStrayByte image q bytes false = AreHeldBytes image q bytes

-- page q can be read, and no valid record begins there
pub record IsRecordless (image : Image) (q : ℕ) (bytes : List ℕ) : Type 0 where
  pub readable : image.page 0 q ≡ Some bytes
  pub no_record : ¬ HasRecord image q

-- page q begins with the letters of this kind, its four bytes, and no valid record holds the first of them
pub record HasLooseLetters (image : Image) (q : ℕ) (bytes : List ℕ) (kind : RecordKind) : Type 0 where
  pub letters : take 4 bytes ≡ magic_of kind
  pub loose : ¬ IsHeldByte image (q * image.geometry.page)

-- what page q of extent 0 is: lost; a record with kind, generation, end and rank, and with or without a stray byte after it;
-- damaged, if no record begins there and it has loose letters; or else stray or held, with or without a stray byte
abbrev pub IsSuperblockPage : Image → ℕ → SuperblockPage → Type 0
IsSuperblockPage image q Lost = image.page 0 q ≡ None
IsSuperblockPage image q (Record kind generation to rank stray) =
    (c : Contents) × RecordStandsAt image q c × (kind ≡ kind_of c) × (generation ≡ c.generation) ×
    (to ≡ q * image.geometry.page + len (record_bytes image.geometry c)) × IsRank image generation rank ×
    ((bytes : List ℕ) × (image.page 0 q ≡ Some bytes) × HasStrayByte image q bytes stray)
IsSuperblockPage image q (Damaged kind) = (bytes : List ℕ) × IsRecordless image q bytes × HasLooseLetters image q bytes kind
IsSuperblockPage image q Stray =
    (bytes : List ℕ) × IsRecordless image q bytes × ((kind : RecordKind) → ¬ HasLooseLetters image q bytes kind) × HasStrayByte image q bytes true
IsSuperblockPage image q Held =
    (bytes : List ℕ) × IsRecordless image q bytes × ((kind : RecordKind) → ¬ HasLooseLetters image q bytes kind) × HasStrayByte image q bytes false

-- the page is damaged
abbrev pub is_damaged : SuperblockPage → Bool
is_damaged (Damaged kind) = true
is_damaged _ = false

-- the page has a stray byte, and isn't damaged
abbrev pub is_stray : SuperblockPage → Bool
is_stray Stray = true
is_stray (Record kind generation to rank stray) = stray
is_stray _ = false

-- the page is damaged or stray
abbrev pub is_odd : SuperblockPage → Bool
is_odd p = is_damaged p || is_stray p

-- the list says what each page of extent 0 is, from page 0 on
pub record AreSuperblockPages (image : Image) (pages : List SuperblockPage) : Type 0 where
  pub count : len pages ≡ image.geometry.pages
  pub each : (q : ℕ) (page : SuperblockPage) → slice_get pages q ≡ Some page → IsSuperblockPage image q page
