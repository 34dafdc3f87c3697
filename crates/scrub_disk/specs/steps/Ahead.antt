-- Steps of loading a part of a disk: pages that are read one after another, many at once where that can be.
use Rattle.std.specs.Prelude.{◌≡◌, ◌<◌, ◌≤◌, ◌+◌, ◌*◌, ◌/◌, ℕ, Bool, true, false, List, length, slice_get, slice_index, slice_index_or, Option, Some, IfSome, ◌⊎◌, All, Contains}
use Rattle.scrub_disk.specs.Raw.{MayFailIn}

-- from one byte of a list up to another each byte is the raw one, where the list is at a place of the raw bytes
abbrev pub StandsBetween : List ℕ → ℕ → ℕ → ℕ → List ℕ → Type 0
StandsBetween known place from end bytes =
    (i : ℕ) → from ≤ i → i < end → slice_get known (place + i) ≡ Some (slice_index bytes i)

-- the first n bytes of `out` are those at the offset, and n is less than `out` has room for only if the bytes end there
pub record FilledFrom (bytes : List ℕ) (offset : ℕ) (out : List ℕ) (n : ℕ) : Type 0 where
  pub given : StandsBetween bytes offset 0 n out
  pub ended : n < length out → length bytes ≤ offset + n

-- the first n bytes of `out` were filled from an offset on, with those of the raw image if its bytes are known
pub record IsFilled (raw : Option (List ℕ)) (offset : ℕ) (out : List ℕ) (n : ℕ) : Type 0 where
  pub within : n ≤ length out
  pub known : IfSome raw (λ bytes. FilledFrom bytes offset out n)

-- byte i of a list is the raw byte at the place plus i, unless its page is marked
abbrev pub HoldsFrom : List ℕ → ℕ → ℕ → List Bool → List ℕ → Type 0
HoldsFrom known place page marks bytes =
    (i : ℕ) → i < length bytes → slice_index_or marks (i / page) true ≡ false → slice_get known (place + i) ≡ Some (slice_index bytes i)

-- a read that asks for some of these bytes, and for no others, failed; the failures are counted before and after it
abbrev pub HasFailed : (ℕ → ℕ → Bool) → ℕ → ℕ → ℕ → ℕ → Type 0
HasFailed fails place size before after = (before < after) × MayFailIn fails place size

-- each marked page among the first ones of a part isn't whole before the bytes end, or is one of those that failures
-- cost, listed here by their numbers on the disk: at most as many as the failures that were counted, and in each of them
-- a read may fail
pub record MarksFrom (bytes : List ℕ) (fails : ℕ → ℕ → Bool) (start page count failures : ℕ) (marks : List Bool) : Type 0 where
  pub failed : List ℕ
  pub few : length failed ≤ failures
  pub each : All (λ n. MayFailIn fails (n * page) page) failed
  pub only : (n : ℕ) → n < count → slice_index_or marks n false ≡ true →
      (length bytes < (start + n) * page + page) ⊎ Contains failed (start + n)

-- the bytes and marks of pages that follow one another, from this one on, were read from this text with at most
-- `failures` failed reads
pub record IsReadPart (text : List ℕ) (fails : ℕ → ℕ → Bool) (first page failures : ℕ) (bytes : List ℕ) (marks : List Bool) : Type 0 where
  pub held : HoldsFrom text (first * page) page marks bytes
  pub lost : MarksFrom text fails first page (length marks) failures marks

-- the same, if the raw bytes are known
abbrev pub IsReadFrom : Option (List ℕ) → (ℕ → ℕ → Bool) → ℕ → ℕ → ℕ → List ℕ → List Bool → Type 0
IsReadFrom known fails first page failures bytes marks =
    IfSome known (λ text. IsReadPart text fails first page failures bytes marks)
