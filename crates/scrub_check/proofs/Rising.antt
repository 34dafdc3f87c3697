-- Lists that ascend strictly: how that is tested, and that nothing occurs twice.
use Rattle.std.proofs.Common.{◌≡◌, ◌≤◌, arith, ℕ, false, nat_lt}
use Rattle.std.proofs.lemmas.Bool.{false_from_ne_true, ltb-true}

-- what occurs at most once doesn't occur several times
pub not_several : (n : ℕ) → n ≤ 1 → nat_lt 1 n ≡ false
not_several n few = false_from_ne_true (nat_lt 1 n) (λ more. let lt = ltb-true 1 n more in omega (arith, lt, few))
