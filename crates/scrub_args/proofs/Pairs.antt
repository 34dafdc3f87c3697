-- A text is a pair in at most one way: its numbers are around its first colon.
use Rattle.std.proofs.Common.{◌≡◌, ℕ, List, length, get_or, ◌<◌, ◌≢◌, Option, None, Some, Bor, MatchOption, arith}
use Rattle.std.proofs.lemmas.Str.Parse.{IsNumeralModel, numerals_by_value, tells_digits, not_in_digits}
use Rattle.std.proofs.lemmas.Str.Pattern.{IsSplitOnceResult, split_after}
use Rattle.std.specs.Str.Parse.{AllDigits, digits_value}
use Rattle.std.specs.Int.{IsInRange}
use Rattle.scrub_args.specs.Pair.{IsDecimal, IsPair}

decimal_digits : IsNumeralModel (AllDigits 10) (digits_value 10)
decimal_digits = numerals_by_value (AllDigits 10) tells_digits

-- a colon is no digit
colon_apart : ¬ (IsInRange 48 57 58)
colon_apart h = omega (arith, h)

-- the parts of a pair around its first colon are its numbers
pub pair_parts : (arg : List ℕ) (r : Option (Bor (List ℕ) × Bor (List ℕ))) (m n : ℕ) →
    IsSplitOnceResult 58 arg r → IsPair arg m n →
    MatchOption r ⊥ (λ x. IsDecimal x.0.now m × IsDecimal x.1.now n)
pair_parts arg r m n split (left, right, joined, first, second) =
    let no_colon : (i : ℕ) → i < length left → get_or left i 0 ≢ 58 =
    not_in_digits decimal_digits left 58 first.0.1 colon_apart in
    numbers r (split_after 58 arg left right r split (omega arith) joined no_colon)
  where
    numbers : (r : Option (Bor (List ℕ) × Bor (List ℕ))) →
        MatchOption r ⊥ (λ x. (x.0.now ≡ left) × (x.1.now ≡ right)) →
        MatchOption r ⊥ (λ x. IsDecimal x.0.now m × IsDecimal x.1.now n)
    numbers None none = none
    numbers (Some x) parts = (rw parts.0 first, rw parts.1 second)
