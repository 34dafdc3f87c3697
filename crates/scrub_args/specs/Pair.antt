-- What an argument of two numbers says: two numbers in decimal digits, with a colon between.
use Rattle.std.specs.Prelude.{◌≡◌, ℕ, List, ◌∷◌, ◌++◌}
use Rattle.std.specs.Str.Parse.{IsNumeral, digits_value}

-- the text is one decimal digit or more and nothing else, and they write n
abbrev pub IsDecimal : List ℕ → ℕ → Type 0
IsDecimal text n = IsNumeral 10 text × (digits_value 10 text ≡ n)

-- the text is m in decimal, a colon, and n in decimal
abbrev pub IsPair : List ℕ → ℕ → ℕ → Type 0
IsPair text m n = (left : List ℕ) × (right : List ℕ) ×
    (text ≡ left ++ 58 ∷ right) × IsDecimal left m × IsDecimal right n
