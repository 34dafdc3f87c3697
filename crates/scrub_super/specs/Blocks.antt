-- Raw bytes in blocks of 512, some of which are lost.
use Rattle.std.specs.Prelude.{◌≡◌, ◌<◌, ◌≤◌, ◌+◌, ◌*◌, ◌/◌, ◌^◌, ◌↔◌, ℕ, List, Bool, true, false, Option, None, ◌⊎◌, Contains, if◌then◌else◌, slice_get, slice_index_or, All}
use Rattle.std.specs.Prelude.{length as len}
use Rattle.scrub_disk.specs.Raw.{MayFailIn}

-- a list of marks is true at block n
abbrev pub IsMarked : List Bool → ℕ → Type 0
IsMarked marks n = slice_index_or marks n false ≡ true

-- there is a mark for each block of 512 bytes, and none after the last byte
pub record AreBlockMarks (bytes : List ℕ) (lost : List Bool) : Type 0 where
  pub all : len bytes ≤ 512 * len lost
  pub few : len lost ≤ 2 ^ 17
  pub begins : (n : ℕ) → IsMarked lost n → n * 512 < len bytes

-- byte i of raw bytes, or None if its block of 512 bytes is lost or the bytes end before it
abbrev pub byte_left : List ℕ → List Bool → ℕ → Option ℕ
byte_left bytes lost i = if slice_index_or lost (i / 512) false then None else slice_get bytes i

-- block n of 512 bytes has a byte before this end that is lacking
pub record LacksByte (end : ℕ) (lacking : ℕ → Bool) (n : ℕ) : Type 0 where
  pub place : ℕ
  pub low : n * 512 ≤ place
  pub high : place < n * 512 + 512
  pub before_end : place < end
  pub lacks : lacking place ≡ true

-- among the blocks of 512 bytes below byte 2^26 each is lost that has a lacking byte before the end of these bytes, and of
-- the others only those that failures cost, listed here by their numbers: at most as many as the failures that were
-- counted, and in each of them a read may fail
pub record LosesBlocks (bytes : List ℕ) (lacking : ℕ → Bool) (fails : ℕ → ℕ → Bool) (failures : ℕ) (lost : List Bool) : Type 0 where
  pub few_blocks : len lost ≤ 2 ^ 17
  pub lacks : (n : ℕ) → n < 2 ^ 17 → LacksByte (len bytes) lacking n → IsMarked lost n
  pub failed : List ℕ
  pub few : len failed ≤ failures
  pub each : All (λ n. MayFailIn fails (n * 512) 512) failed
  pub only : (n : ℕ) → IsMarked lost n → LacksByte (len bytes) lacking n ⊎ Contains failed n

-- each of these marks is true exactly if its block of 512 bytes has a lacking byte before this end
abbrev pub AreLackingBlocks : ℕ → (ℕ → Bool) → List Bool → Type 0
AreLackingBlocks end lacking marks = (n : ℕ) → n < len marks → IsMarked marks n ↔ LacksByte end lacking n

-- the blocks from `first` on up to `stop` are lost, and the ones before and after them aren't
pub record IsLostRun (lost : List Bool) (first stop : ℕ) : Type 0 where
  pub some : first < stop
  pub all : (n : ℕ) → first ≤ n → n < stop → IsMarked lost n
  pub not_before : (n : ℕ) → n + 1 ≡ first → ¬ IsMarked lost n
  pub not_behind : ¬ IsMarked lost stop
