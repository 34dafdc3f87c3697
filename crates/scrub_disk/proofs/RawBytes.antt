-- Raw bytes that are read piece by piece into a list.
use Rattle.std.proofs.Common.{◌≡◌, ◌<◌, ◌≤◌, ◌+◌, ◌-◌, ℕ, List, length, take, get_or, slice_get, arith, sym, ◌∙◌, ap, inl, inr, Option, Some, None, IfSome}
use Rattle.std.proofs.lemmas.Bool.{cases_lt}
use Rattle.std.proofs.lemmas.List.{get_or-take, length-take-le}
use borrow.Rule.Slice.PartMut.{put_mid}
use Rattle.scrub_disk.proofs.Writes.{put_within, put_outside}
use Rattle.scrub_disk.specs.Raw.{ReadFrom, IsRead}

-- the first `done` bytes of the list are those at the offset
abbrev pub StandsSoFar : List ℕ → ℕ → ℕ → List ℕ → Type 0
StandsSoFar bytes offset done out = (k : ℕ) → k < done → slice_get bytes (offset + k) ≡ Some (get_or out k 0)

-- the same of the raw image's bytes, if they are known
abbrev pub ReadSoFar : Option (List ℕ) → ℕ → ℕ → List ℕ → Type 0
ReadSoFar raw offset done out = IfSome raw (λ bytes. StandsSoFar bytes offset done out)

-- the bytes after one more read
stands_more : (bytes : List ℕ) (offset done n : ℕ) (out piece : List ℕ) → done ≤ length out →
    length piece ≡ length out - done → n ≤ length piece →
    StandsSoFar bytes offset done out → ReadFrom bytes (offset + done) piece n →
    StandsSoFar bytes offset (done + n) (put_mid done (length out - done) out piece)
stands_more bytes offset done n out piece within l few before read k hk = elim (cases_lt k done) [
  | inl below ↦
      before k below
      ∙ ap Some (sym (put_outside out piece done (length out - done) k (sym l) (omega arith) (inl below) (omega (arith, below, within))))
  | inr past ↦
      let j : done + (k - done) ≡ k = omega (arith, past) in
      let here : k - done < n = omega (arith, past, hk) in
      let taken : length (take n piece) ≡ n = length-take-le n piece few in
      let place : offset + done + (k - done) ≡ offset + k = omega (arith, past) in
      ap (slice_get bytes) (sym place) ∙ read.given (k - done) (omega (arith, taken, here))
      ∙ ap Some
      (get_or-take n piece (k - done) 0 here ∙ sym (put_within out piece done (length out - done) (k - done) (sym l) (omega arith) (omega (arith, here, few, l)))
      ∙ ap (λ i. get_or (put_mid done (length out - done) out piece) i 0) j)
]

-- the same if the raw image's bytes are known
pub read_more : (raw was : Option (List ℕ)) (offset done n : ℕ) (out piece : List ℕ) → was ≡ raw → done ≤ length out →
    length piece ≡ length out - done →
    ReadSoFar raw offset done out → IsRead was (offset + done) piece n →
    ReadSoFar raw offset (done + n) (put_mid done (length out - done) out piece)
read_more None was offset done n out piece e within l before read = tt
read_more (Some bytes) was offset done n out piece e within l before read =
    let known : IsRead (Some bytes) (offset + done) piece n = rw e at read in
    stands_more bytes offset done n out piece within l known.within before known.known
