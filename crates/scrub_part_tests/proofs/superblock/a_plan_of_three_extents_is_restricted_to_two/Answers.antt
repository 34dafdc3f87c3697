-- Extents 1 and 3 are among the planned ones: 1, 2 and 3.
use Rattle.std.proofs.Common.{◌≡◌, ◌-◌, ◌∙◌, ℕ, zero, suc, [], ◌∷◌, All, arith, refl, sym, ap}
use Rattle.std.specs.List.{Contains, range_with_len}
use Rattle.scrub_disk.specs.declared.geometry.Geometry.{Geometry}
use Rattle.scrub_part_tests.proofs.superblock.a_plan_of_three_extents_is_restricted_to_two.Goals as goal

two_of_three : All {X = ℕ} (Contains (1 ∷ 2 ∷ 3 ∷ [])) (1 ∷ 3 ∷ [])
two_of_three zero d h = (0, omega arith, refl)
two_of_three (suc zero) d h = (2, omega arith, refl)
two_of_three (suc (suc k)) d h = absurd (omega (arith, h))

pub restrict-requires-clause-each_planned : goal.restrict-requires-clause-each_planned
restrict-requires-clause-each_planned g c =
    let three : c.geometry-geometry.result.extents - 1 ≡ 3 = omega arith in
    rw
    (c.in_ok-plan.ensures.planned
    ∙ ap (λ (x : Geometry). range_with_len 1 (x.extents - 1)) (sym c.geometry-geometry.ensures)
    ∙ ap (range_with_len 1) three)
    two_of_three
