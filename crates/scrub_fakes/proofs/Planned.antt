-- Which extents are planned.
use Rattle.std.proofs.Common.{ℕ, zero, suc, [], ◌∷◌, All, arith, refl}
use Rattle.std.specs.List.{Contains}

-- extents 1 and 3 are among 1, 2 and 3
pub two_of_three : All {X = ℕ} (Contains (1 ∷ 2 ∷ 3 ∷ [])) (1 ∷ 3 ∷ [])
two_of_three zero d h = (0, omega arith, refl)
two_of_three (suc zero) d h = (2, omega arith, refl)
two_of_three (suc (suc k)) d h = absurd (omega (arith, h))
