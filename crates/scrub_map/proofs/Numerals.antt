-- Digits, and the numbers that they spell, digit by digit.
use Rattle.std.proofs.Common.{◌≡◌, ◌<◌, ◌≤◌, ◌+◌, ◌*◌, ◌^◌, ℕ, List, [], ◌∷◌, zero, suc, length, take, get_or, arith, refl, ◌∙◌, ap}
use Rattle.std.specs.Char.{digit_value}
use Rattle.std.specs.Str.Parse.{AllDigits, digits_value}
use Rattle.std.proofs.lemmas.Int.Digits.{digits_value_more, digits_more}
use Rattle.std.proofs.lemmas.Str.Parse.{digits_value-take-le}
use Rattle.scrub_map.specs.Number.{AppendsDigit, WritesNumber}

-- the first i digits spell this value, which is at most 2^63 - 1
pub record WritesSoFar (radix : ℕ) (digits : List ℕ) (i value : ℕ) : Type 0 where
  pub digits_are : AllDigits radix (take i digits)
  pub value_is : digits_value radix (take i digits) ≡ value
  pub small : value < 2 ^ 63

-- If the next digit can follow and gives the value n, one digit more spells n.
pub writes_more : (radix : ℕ) (digits : List ℕ) (i value n : ℕ) → i < length digits → WritesSoFar radix digits i value →
    AppendsDigit radix value (get_or digits i 0) n → WritesSoFar radix digits (i + 1) n
writes_more radix digits i value n below before more = record {
  digits_are = digits_more radix digits i below before.digits_are more.is_digit;
  value_is =
      digits_value_more radix digits i below ∙ ap (λ v. v * radix + digit_value (get_or digits i 0)) before.value_is
      ∙ more.sum;
  small = more.small;
}

-- each digit of a numeral is one of its radix
digit_below : (radix : ℕ) (digits : List ℕ) (i : ℕ) → AllDigits radix digits → i < length digits →
    digit_value (get_or digits i 0) < radix
digit_below radix [] i all below = absurd (omega (arith, below))
digit_below radix (c ∷ cs) zero all below = all.0
digit_below radix (c ∷ cs) (suc i) all below = digit_below radix cs i all.1 (omega (arith, below))

-- if a digit can't follow the first ones, the digits spell no number
pub writes_nothing : (radix : ℕ) (digits : List ℕ) (i value : ℕ) → 1 ≤ radix → i < length digits →
    WritesSoFar radix digits i value →
    ((n : ℕ) → ¬ AppendsDigit radix value (get_or digits i 0) n) → (n : ℕ) → ¬ WritesNumber radix digits n
writes_nothing radix digits i value low below before not n all =
    let first : digits_value radix (take (i + 1) digits) ≡ value * radix + digit_value (get_or digits i 0) =
    digits_value_more radix digits i below ∙ ap (λ v. v * radix + digit_value (get_or digits i 0)) before.value_is in
    not (value * radix + digit_value (get_or digits i 0)) (record {
      is_digit = digit_below radix digits i all.numeral.1 below;
      sum = refl;
      small = omega (arith, digits_value-take-le radix digits (i + 1) low, first, all.value, all.small);
    })
