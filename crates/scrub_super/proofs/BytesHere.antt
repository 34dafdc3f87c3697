-- Bytes that are read at a place of an extent, those that can't be read as 0.
use Rattle.std.proofs.Common.{◌≡◌, ◌≤◌, ◌+◌, ℕ, List, ◌++◌, map, length, drop, get_or, arith, refl, ◌∙◌, ap, Option, Some, None}
use Rattle.std.specs.List.{range_with_len}
use Rattle.std.proofs.lemmas.List.{append-nil, drop_all}
use Rattle.std.proofs.lemmas.List.FromFn.{get_or-map-range_with_len, length-map-range_with_len}
use Rattle.std.proofs.lemmas.List.Prefix.{front_from_reads}
use Rattle.list_facts.proofs.Decisions.{Decided, decided_below, decided_some}
use Rattle.scrub_disk.specs.Image.{AreBytesAt}

-- the byte at a place, or 0 if it can't be read
abbrev pub byte_or_zero : Option ℕ → ℕ
byte_or_zero (Some v) = v
byte_or_zero None = 0

-- the n bytes from p on
abbrev pub bytes_here : (ℕ → Option ℕ) → ℕ → ℕ → List ℕ
bytes_here at p n = map (λ i. byte_or_zero (at i)) (range_with_len p n)

-- they are n
pub length-bytes_here : (at : ℕ → Option ℕ) (p n : ℕ) → length (bytes_here at p n) ≡ n
length-bytes_here at p n = length-map-range_with_len (λ i. byte_or_zero (at i)) p n

-- they begin with those that are there
pub begin_with : (at : ℕ → Option ℕ) (p n : ℕ) (xs : List ℕ) → AreBytesAt at p xs → length xs ≤ n →
    bytes_here at p n ≡ xs ++ drop (length xs) (bytes_here at p n)
begin_with at p n xs there fits =
    front_from_reads 0 (bytes_here at p n) xs (omega (arith, length-bytes_here at p n, fits))
    (λ i hi.
    get_or-map-range_with_len (λ j. byte_or_zero (at j)) p n i (p + i) 0 (omega (arith, hi, fits)) refl
    ∙ ap byte_or_zero (there i hi))

-- and are those, if these are as many
pub exactly : (at : ℕ → Option ℕ) (p n : ℕ) (xs : List ℕ) → AreBytesAt at p xs → n ≡ length xs → bytes_here at p n ≡ xs
exactly at p n xs there many =
    begin_with at p n xs there (omega (arith, many))
    ∙ ap (λ t. xs ++ t) (drop_all (length xs) (bytes_here at p n) (omega (arith, length-bytes_here at p n, many)))
    ∙ append-nil xs

-- whether bytes are at a place is decided
pub decided_bytes_at : (at : ℕ → Option ℕ) (p : ℕ) (xs : List ℕ) → Decided (AreBytesAt at p xs)
decided_bytes_at at p xs =
    decided_below (λ k. at (p + k) ≡ Some (get_or xs k 0)) (λ k. decided_some (at (p + k)) (get_or xs k 0)) (length xs)
