-- The UUIDs of chunks, sorted by the code as numbers of 128 bits.
use Rattle.std.specs.Prelude.{◌≡◌, ◌<◌, ◌++◌, ◌==◌, ℕ, Bool, nat_lt, List, All, length, map, slice_index}
use Rattle.std.specs.Int.{from_be_bytes, w128}
use Rattle.std.specs.List.{count_by}
use Rattle.std.specs.List.Sorted.{IsPermutation}
use Rattle.scrub_check.specs.declared.lists.place.Place.{Place}

-- sixteen bytes
pub record AreSixteen (uuid : List ℕ) : Type 0 where
  pub sixteen : length uuid ≡ 16
  pub bytes : (i : ℕ) → slice_index uuid i < 256

-- the number that the bytes of a UUID spell, the first of them the highest
abbrev pub number_of : List ℕ → ℕ
number_of uuid = from_be_bytes w128 uuid

-- the numbers of the UUIDs of these chunks, in their order
abbrev pub numbers_of : List Place → List ℕ
numbers_of chunks = map (λ p. number_of p.uuid) chunks

-- the UUID of each of these chunks is sixteen bytes
abbrev pub HaveSixteen : List Place → Type 0
HaveSixteen chunks = All (λ p. AreSixteen p.uuid) chunks

-- the numbers of the UUIDs of these chunks follow those before
pub record AddsNumbers (before : List ℕ) (chunks : List Place) (after : List ℕ) : Type 0 where
  pub each : HaveSixteen chunks
  pub numbers : after ≡ before ++ numbers_of chunks

-- the UUIDs of these chunks as numbers, each as often as a chunk has it, in some order
pub record AreUuidsOf (chunks : List Place) (numbers : List ℕ) : Type 0 where
  pub each : HaveSixteen chunks
  pub shuffled : IsPermutation (numbers_of chunks) numbers

-- the number of the chunk's UUID is among these twice or more
abbrev pub is_twin_by : List ℕ → Place → Bool
is_twin_by numbers p = nat_lt 1 (count_by (λ n. n == number_of p.uuid) numbers)
