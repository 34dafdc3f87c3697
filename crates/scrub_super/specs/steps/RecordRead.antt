-- Steps of reading a record: its head, and what that says of the whole record.
use Rattle.std.specs.Prelude.{◌≡◌, ◌<◌, ◌≤◌, ◌+◌, ◌*◌, ◌-◌, ◌^◌, ℕ, List, [], ◌∷◌, ◌++◌, Option, Some, None, codes, drop, take, option_map, slice_index}
use Rattle.std.specs.Prelude.{length as len}
use Rattle.std.specs.List.{flat_map}
use Rattle.std.specs.Option.{option_map_or, unwrap_or}
use Rattle.byteorder.specs.Endian.{big_bytes, big_number}
use Rattle.scrub_disk.specs.declared.geometry.Geometry.{Geometry}
use Rattle.scrub_super.specs.declared.kind.RecordKind.{RecordKind}
use Rattle.scrub_super.specs.declared.kind.RecordKind.TheVariants.{Ssb1, Ssb2}
use Rattle.scrub_frame.specs.Locator.{locator_bytes}
use Rattle.scrub_super.specs.Contents.{Contents, retired_in}
use Rattle.scrub_super.specs.Record.{BeginsWithRecord}
use Rattle.scrub_super.specs.Pages.{magic_of}

-- all of a record before the digest
abbrev pub record_body : Geometry → Contents → List ℕ
record_body g c =
    codes (option_map_or (λ _. "SSB2") c.retired "SSB1") ++ big_bytes 8 c.generation
    ++ big_bytes 4 g.page ++ big_bytes 4 g.pages ++ big_bytes 4 g.extents
    ++ big_bytes 2 (len c.runs) ++ option_map_or (λ extents. big_bytes 2 (len extents)) c.retired []
    ++ flat_map (big_bytes 4) c.pointers ++ flat_map (big_bytes 4) (retired_in c) ++ flat_map locator_bytes c.runs

-- the digit that ends the magic: that of `SSB1`, or of `SSB2` if retired extents are listed
abbrev pub digit_of : Option ℕ → ℕ
digit_of None = 0x31
digit_of (Some retired) = 0x32

-- what both kinds of record begin with: the magic, the generation, the disk's sizes and the number of index runs
abbrev pub front_bytes : ℕ → Geometry → ℕ → ℕ → List ℕ
front_bytes digit g generation runs =
    (0x53 ∷ 0x53 ∷ 0x42 ∷ digit ∷ []) ++ big_bytes 8 generation
    ++ big_bytes 4 g.page ++ big_bytes 4 g.pages ++ big_bytes 4 g.extents ++ big_bytes 2 runs

-- the number of retired extents in two bytes, or nothing if they aren't listed
abbrev pub count_bytes : Option ℕ → List ℕ
count_bytes None = []
count_bytes (Some retired) = big_bytes 2 retired

-- all of a record before the write pointers: with these after it, `body_is` says, it is a record without its digest
abbrev pub head_bytes : Geometry → ℕ → ℕ → Option ℕ → List ℕ
head_bytes g generation runs retired = front_bytes (digit_of retired) g generation runs ++ count_bytes retired

-- the kind of a record with so many retired extents, if they are listed
abbrev pub kind_by : Option ℕ → RecordKind
kind_by retired = option_map_or (λ _. Ssb2) retired Ssb1

-- the digit that ends the four bytes of a kind
abbrev pub digit_by : RecordKind → ℕ
digit_by kind = slice_index (magic_of kind) 3

-- the front of a record of this kind and geometry, with so many index runs
pub record IsFront (g : Geometry) (bytes : List ℕ) (kind : RecordKind) (generation runs : ℕ) : Type 0 where
  pub fits : generation < 2 ^ 64
  pub few : runs ≤ 32
  pub spelled : bytes ≡ front_bytes (digit_by kind) g generation runs

-- how many bytes are before the write pointers: 26, or 28 if retired extents are listed
abbrev pub record_head_size : Option ℕ → ℕ
record_head_size None = 26
record_head_size (Some retired) = 28

-- how many retired extents a head says there are
abbrev pub retired_count : Option ℕ → ℕ
retired_count retired = unwrap_or retired 0

-- how many bytes are before the digest
abbrev pub body_size : Contents → ℕ
body_size c = record_head_size (option_map len c.retired) + 4 * len c.pointers + 4 * retired_count (option_map len c.retired) + 60 * len c.runs

-- the head of a record of this geometry, with so many index runs and retired extents
pub record IsHead (g : Geometry) (bytes : List ℕ) (generation runs : ℕ) (retired : Option ℕ) : Type 0 where
  pub fits : generation < 2 ^ 64
  pub few : runs ≤ 32
  pub small : retired_count retired < 2 ^ 16
  pub spelled : bytes ≡ head_bytes g generation runs retired

-- how many bytes of such a record are before its retired extents
abbrev pub retired_place : Geometry → Option ℕ → ℕ
retired_place g retired = record_head_size retired + 4 * (g.extents - 1)

-- how many are before its locators
abbrev pub runs_place : Geometry → Option ℕ → ℕ
runs_place g retired = retired_place g retired + 4 * retired_count retired

-- how many are before its digest
abbrev pub digest_place : Geometry → ℕ → Option ℕ → ℕ
digest_place g runs retired = runs_place g retired + 60 * runs

-- the bytes of its write pointers
abbrev pub pointer_bytes : Geometry → Option ℕ → List ℕ → List ℕ
pointer_bytes g retired bytes = take (4 * (g.extents - 1)) (drop (record_head_size retired) bytes)

-- the bytes of its retired extents
abbrev pub retired_bytes : Geometry → Option ℕ → List ℕ → List ℕ
retired_bytes g retired bytes = take (4 * retired_count retired) (drop (retired_place g retired) bytes)

-- the bytes of its locators
abbrev pub run_locator_bytes : Geometry → ℕ → Option ℕ → List ℕ → List ℕ
run_locator_bytes g runs retired bytes = take (60 * runs) (drop (runs_place g retired) bytes)

-- a prefix of the bytes is some record of this generation and these numbers of index runs and retired extents
pub record BeginsWithSome (g : Geometry) (bytes : List ℕ) (n runs : ℕ) (retired : Option ℕ) : Type 0 where
  pub contents : Contents
  pub begins : BeginsWithRecord g bytes contents
  pub generation : contents.generation ≡ n
  pub count : len contents.runs ≡ runs
  pub listed : option_map len contents.retired ≡ retired

-- the k-th of numbers of four bytes each
abbrev pub number_in : List ℕ → ℕ → ℕ
number_in bytes k = big_number 4 (drop (4 * k) bytes)

-- the numbers of four bytes each are ascending, from 1 up to the number of extents less 1
pub record SpellExtents (extents : ℕ) (bytes : List ℕ) : Type 0 where
  pub rising : (k : ℕ) → 4 * k + 8 ≤ len bytes → number_in bytes k < number_in bytes (k + 1)
  pub from_one : (k : ℕ) → 4 * k + 4 ≤ len bytes → 1 ≤ number_in bytes k
  pub below : (k : ℕ) → 4 * k + 4 ≤ len bytes → number_in bytes k < extents
