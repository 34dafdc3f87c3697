-- Numbers as unsigned integer constants of C.
use Rattle.std.specs.Prelude.{◌≡◌, ◌<◌, ◌+◌, ◌*◌, ◌^◌, ◌==◌, ◌&&◌, ◌||◌, ℕ, Bool, List, drop, slice_index, if◌then◌else◌}
use Rattle.std.specs.Char.{digit_value}
use Rattle.std.specs.Str.Parse.{IsNumeral, digits_value}

-- the digits, one or more of this radix and nothing else, write n, which is at most 2^63 - 1
pub record WritesNumber (radix : ℕ) (digits : List ℕ) (n : ℕ) : Type 0 where
  pub numeral : IsNumeral radix digits
  pub value : digits_value radix digits ≡ n
  pub small : n < 2 ^ 63

-- the text begins with `0x` or `0X`
unfoldable pub is_hexadecimal : List ℕ → Bool
is_hexadecimal text = (slice_index text 0 == 48) && ((slice_index text 1 == 120) || (slice_index text 1 == 88))

-- the radix of a number: 16 after `0x` or `0X`, 8 if it begins with 0, else 10
unfoldable pub radix_of : List ℕ → ℕ
radix_of text = if is_hexadecimal text then 16 else (if slice_index text 0 == 48 then 8 else 10)

-- the digits of a number: what follows `0x` or `0X`, or else the whole text
unfoldable pub digits_of_number : List ℕ → List ℕ
digits_of_number text = if is_hexadecimal text then drop 2 text else text

-- the text is the number n as C writes it, unsigned and at most 2^63 - 1
abbrev pub IsNumber : List ℕ → ℕ → Type 0
IsNumber text n = WritesNumber (radix_of text) (digits_of_number text) n

-- the digit is one of this radix, and n is the value with that digit appended, at most 2^63 - 1
pub record AppendsDigit (radix value digit n : ℕ) : Type 0 where
  pub is_digit : digit_value digit < radix
  pub sum : value * radix + digit_value digit ≡ n
  pub small : n < 2 ^ 63
