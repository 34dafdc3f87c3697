-- Tests of how two values compare.
use Rattle.std.proofs.Common.{◌&&◌, ◌==◌, ◌≡◌, arith, Equal, false, Greater, is_eq, is_le, is_lt, Less, nat_cmp, not, Ordering, refl, sym, true, ℕ}
use Rattle.std.specs.Ordering.{is_eq, is_ne, ordering_reverse, ordering_then}
use Rattle.std.specs.declared.cmp.Ordering.{Ordering}
use Rattle.std.specs.declared.cmp.Ordering.TheVariants.{Equal, Greater, Less}
use Rattle.std.proofs.lemmas.Bool.{true≢false}
use Rattle.std.proofs.lemmas.Grind.{common_steps}

-- what is below is at most
pub is_le_from_lt : (r : Ordering) → is_lt r ≡ true → is_le r ≡ true
is_le_from_lt Less e = refl
is_le_from_lt Equal e = refl
is_le_from_lt Greater e = e

-- what is at most and not below is equal
pub eq_if_neither_lt_nor_gt : (r : Ordering) → is_lt r ≡ false → is_le r ≡ true → is_eq r ≡ true
eq_if_neither_lt_nor_gt Less e f = sym e
eq_if_neither_lt_nor_gt Equal e f = refl
eq_if_neither_lt_nor_gt Greater e f = f

-- what is below is not equal
pub not_eq_from_lt : (r : Ordering) → is_lt r ≡ true → is_eq r ≡ false
not_eq_from_lt Less e = refl
not_eq_from_lt Equal e = sym e
not_eq_from_lt Greater e = refl

-- what is above is not equal
pub not_eq_from_not_le : (r : Ordering) → is_le r ≡ false → is_eq r ≡ false
not_eq_from_not_le Less e = refl
not_eq_from_not_le Equal e = e
not_eq_from_not_le Greater e = refl

-- the test for `Less`, as the value
pub Less_from_is_lt : (r : Ordering) → is_lt r ≡ true → r ≡ Less
Less_from_is_lt Less e = refl
Less_from_is_lt Equal e = absurd (true≢false (sym e))
Less_from_is_lt Greater e = absurd (true≢false (sym e))

-- the test for `Equal`, as the value
pub Equal_from_is_eq : (r : Ordering) → is_eq r ≡ true → r ≡ Equal
Equal_from_is_eq Equal e = refl
Equal_from_is_eq Less e = absurd (cc)
Equal_from_is_eq Greater e = absurd (cc)

-- two values are equal if neither is below the other
pub is_eq-neither_lt : (r : Ordering) → (not (is_lt (ordering_reverse r)) && not (is_lt r)) ≡ is_eq r
is_eq-neither_lt Less = refl
is_eq-neither_lt Equal = refl
is_eq-neither_lt Greater = refl

-- equality goes both ways
pub is_eq-reverse : (r : Ordering) → is_eq (ordering_reverse r) ≡ is_eq r
is_eq-reverse Less = refl
is_eq-reverse Equal = refl
is_eq-reverse Greater = refl

-- two pairs are equal if both their parts are
pub is_eq-ordering_then : (r q : Ordering) → is_eq (ordering_then r q) ≡ (is_eq r && is_eq q)
is_eq-ordering_then Less q = refl
is_eq-ordering_then Equal q = refl
is_eq-ordering_then Greater q = refl

-- numbers that compare equal are equal
pub is_eq-nat_cmp : (a b : ℕ) → is_eq (nat_cmp a b) ≡ (a == b)
is_eq-nat_cmp a b = grind (arith, common_steps)

-- the two tests for equality are opposite
pub not_eq_from_ne : (o : Ordering) → is_ne o ≡ true → is_eq o ≡ false
not_eq_from_ne Less h = refl
not_eq_from_ne Equal h = cc
not_eq_from_ne Greater h = refl

-- and so back
pub eq_from_not_ne : (o : Ordering) → is_ne o ≡ false → is_eq o ≡ true
eq_from_not_ne Less h = cc
eq_from_not_ne Equal h = refl
eq_from_not_ne Greater h = cc
