-- Parts of a byte list, and the numbers that four bytes spell.
use Rattle.std.proofs.Common.{◌≡◌, ◌<◌, ◌≤◌, ◌+◌, ◌^◌, ℕ, List, length, take, drop, get_or, arith, refl, sym, ◌∙◌, ap, length-drop, inl, inr, lit<}
use Rattle.std.proofs.lemmas.Bool.{cases_lt}
use Rattle.std.proofs.lemmas.List.{get_or-take, get_or-drop, length-take-le, get_or_past}
use Rattle.std.proofs.lemmas.Nat.{be_bytes_4, from_be_bytes-to_be_bytes_4}
use Rattle.std.specs.Int.{w32, from_be_bytes}
use Rattle.byteorder.specs.Endian.{big_bytes, big_number}

-- a number of four bytes is read from only four bytes
pub number-take : (x : List ℕ) → big_number 4 (take 4 x) ≡ big_number 4 x
number-take x =
    rw
    (get_or-take 4 x 0 0 (omega arith), get_or-take 4 x 1 0 (omega arith), get_or-take 4 x 2 0 (omega arith), get_or-take 4 x 3 0 (omega arith))
    refl

-- byteorder's number of four bytes is std's
number-std : (x : List ℕ) → big_number 4 x ≡ from_be_bytes w32 x
number-std x = omega arith

-- the number that four bytes spell is spelled by them
pub bytes-number : (x : List ℕ) → 4 ≤ length x → ((i : ℕ) → get_or x i 0 < 256) →
    big_bytes 4 (big_number 4 x) ≡ take 4 x
bytes-number x enough are_bytes =
    be_bytes_4 (take 4 x) (big_number 4 x) (length-take-le 4 x enough) below
    (sym (number-take x) ∙ number-std (take 4 x))
  where
    below : (i : ℕ) → get_or (take 4 x) i 0 < 256
    below i = elim (cases_lt i 4) [
      | inl h ↦ rw (get_or-take 4 x i 0 h) (are_bytes i)
      | inr h ↦ rw (get_or_past (take 4 x) i 0 (omega (arith, length-take-le 4 x enough))) (lit< tt)
    ]

-- the same of a number that was read at place m
pub bytes-number_at : (x : List ℕ) (m n : ℕ) → ((i : ℕ) → get_or x i 0 < 256) → m + 4 ≤ length x →
    n ≡ big_number 4 (take 4 (drop m x)) → big_bytes 4 n ≡ take 4 (drop m x)
bytes-number_at x m n are_bytes fits read =
    ap (big_bytes 4) (read ∙ number-take (drop m x))
    ∙ bytes-number (drop m x) (omega (arith, length-drop m x, fits)) (λ i. rw (get_or-drop m x i 0) (are_bytes (m + i)))

-- a number that fits four bytes is read from the bytes that spell it
pub number-bytes : (n : ℕ) → n < 2 ^ 32 → big_number 4 (big_bytes 4 n) ≡ n
number-bytes n h = number-std (big_bytes 4 n) ∙ from_be_bytes-to_be_bytes_4 n h

-- so no two numbers have the same four bytes
pub bytes-injective : (n m : ℕ) → n < 2 ^ 32 → m < 2 ^ 32 → big_bytes 4 n ≡ big_bytes 4 m → n ≡ m
bytes-injective n m hn hm same = sym (number-bytes n hn) ∙ ap (big_number 4) same ∙ number-bytes m hm
