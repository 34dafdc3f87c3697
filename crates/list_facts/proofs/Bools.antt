-- What a negated test says.
use Rattle.std.proofs.Common.{◌≡◌, Bool, false, not, refl, sym, true}
use Rattle.std.proofs.lemmas.Bool.{true≢false}

-- a test whose negation holds is false
pub false_from_not : (b : Bool) → not b ≡ true → b ≡ false
false_from_not true h = absurd (true≢false (sym h))
false_from_not false h = refl

-- and one whose negation fails is true
pub true_from_not : (b : Bool) → not b ≡ false → b ≡ true
true_from_not true h = refl
true_from_not false h = absurd (true≢false h)
