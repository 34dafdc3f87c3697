-- Bytes that are all zero: none is counted among those that aren't zero, and none is found.
use Rattle.std.proofs.Common.{◌≡◌, ◌+◌, ℕ, suc, List, [], ◌∷◌, arith, refl, ◌∙◌, ap, Some, None, not, cond, eqb}
use Rattle.std.proofs.lemmas.Iterator.Adapters.{position_from-zero}
use Rattle.std.specs.List.{count_by, position, position_from}
use Rattle.std.proofs.lemmas.List.{get_or_default}
use Rattle.list_facts.proofs.Counts.{count_none}
use Rattle.scrub_disk.proofs.AllZero.{AreZero}

nowhere_from : (i : ℕ) (xs : List ℕ) → AreZero xs → position_from (λ b. not (eqb b 0)) i xs ≡ None
nowhere_from i [] all = refl
nowhere_from i (x ∷ xs) all =
    ap (λ y. cond (not (eqb y 0)) (Some i) (position_from (λ b. not (eqb b 0)) (i + 1) xs)) (all 0 (omega arith))
    ∙ nowhere_from (i + 1) xs (λ k here. all (suc k) (omega (arith, here)))

-- none of them is counted
pub zeros_counted : (xs : List ℕ) → AreZero xs → count_by (λ b. not (eqb b 0)) xs ≡ 0
zeros_counted xs all =
    count_none (λ b. not (eqb b 0)) xs
    (λ k d here. ap (λ y. not (eqb y 0)) (get_or_default xs k d 0 here ∙ all k here))

-- and none is found
pub zeros_nowhere : (xs : List ℕ) → AreZero xs → position (λ b. not (eqb b 0)) xs ≡ None
zeros_nowhere xs all = position_from-zero (λ b. not (eqb b 0)) xs ∙ nowhere_from 0 xs all
