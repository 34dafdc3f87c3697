-- Numbers in rows of one length: the row of a number is its quotient by the length.
use Rattle.std.proofs.Common.{◌*◌, ◌+◌, ◌-◌, ◌/◌, ◌<◌, ◌≡◌, ◌≤◌, arith, inl, inr, min, ℕ}
use Rattle.std.proofs.Math.Nat.{div-mul-le_self, mod-lt, mul-le-mul_left}
use Rattle.std.proofs.lemmas.Bool.{cases_lt}
use Rattle.std.proofs.lemmas.Nat.{div-add-mod', div_below, le-div}

-- a later number is in the same row or in a later one
pub div_rises : (a b n : ℕ) → 0 < n → a ≤ b → a / n ≤ b / n
div_rises a b n positive h = le-div (a / n) b n positive (omega (arith, div-mul-le_self a n, h))

-- the numbers of row q
pub div_is : (q i n : ℕ) → 0 < n → q * n ≤ i → i < q * n + n → i / n ≡ q
div_is q i n positive low high =
    let least : q ≤ i / n = le-div q i n positive low in
    let below : i / n < q + 1 = div_below i n (q + 1) positive (omega (arith, high)) in
    omega (arith, least, below)

-- each row from that of a to that of the number before b has a number from a up to b
pub place_in_row : (q a b n : ℕ) → 0 < n → a < b → a / n ≤ q → q ≤ (b - 1) / n →
    (i : ℕ) × (a ≤ i) × (i < b) × (i / n ≡ q)
place_in_row q a b n positive some low high =
    elim (cases_lt (a / n) q) [
      | inl later ↦
          let next : a / n + 1 ≤ q = omega (arith, later) in
          let up : n * (a / n + 1) ≤ n * q = mul-le-mul_left n next in
          let past : a < a / n * n + n = omega (arith, div-add-mod' a n, mod-lt a positive) in
          let top : n * q ≤ n * ((b - 1) / n) = mul-le-mul_left n high in (
            q * n,
            omega (arith, up, past),
            omega (arith, top, div-mul-le_self (b - 1) n, some),
            div_is q (q * n) n positive (omega arith) (omega (arith, positive)),
          )
      | inr first ↦ (a, omega arith, some, omega (arith, low, first))
    ]

-- a number up to the end of the row of p is in that row, or begins the next one
pub div_up_to_next_row : (p stop n : ℕ) → 0 < n → stop ≤ (p / n + 1) * n → stop / n ≤ p / n + 1
div_up_to_next_row p stop n positive within =
    let below : stop / n < p / n + 1 + 1 =
    div_below stop n (p / n + 1 + 1) positive (omega (arith, within, positive)) in
    omega (arith, below)

-- a stop at the end of the row of p begins the next row, unless it is w
pub div_of_next_row : (p w n stop : ℕ) → 0 < n → stop ≡ min w ((p / n + 1) * n) → stop < w →
    stop / n ≡ p / n + 1
div_of_next_row p w n stop positive is below =
    let at : stop ≡ (p / n + 1) * n = omega (arith, is, below) in
    div_is (p / n + 1) stop n positive (omega (arith, at)) (omega (arith, at, positive))

-- a number in row g or before it is below the next row
pub below_next_row : (a g n : ℕ) → 0 < n → a / n ≤ g → a < (g + 1) * n
below_next_row a g n positive h = elim (cases_lt a ((g + 1) * n)) [
  | inl less ↦ less
  | inr past ↦ absurd (omega (arith, le-div (g + 1) a n positive past, h))
]
