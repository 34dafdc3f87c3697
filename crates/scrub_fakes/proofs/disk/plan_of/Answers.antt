-- The plan is that of the chosen superblock, and has all extents but extent 0.
use Rattle.std.proofs.Common.{◌≡◌, ◌∙◌, ◌==◌, ℕ, [], true, sym, length, arith}
use Rattle.std.proofs.lemmas.Bool.Decides.{nat_tests}
use Rattle.std.proofs.lemmas.List.{nil_from_length}
use Rattle.scrub_super.proofs.Plans.{all_kept}
use Rattle.scrub_fakes.proofs.disk.plan_of.Goals as goal

-- an empty list has length 0
is_none : (n : ℕ) → (n == 0) ≡ true → n ≡ 0
is_none n empty = grind (arith, nat_tests, empty)

pub returns-clause-planned : goal.returns-clause-planned
returns-clause-planned c =
    let empty = is_none (length c.retired.result.now) (sym c.is_empty.ensures ∙ c.if-not-is_empty.false) in
    let none : c.in_ok-plan.plan.retired ≡ [] = sym c.retired.ensures.retired ∙ nil_from_length c.retired.result.now empty in
    (rw (c.in_ok-chosen.ensures.geometry, none) at c.in_ok-plan.ensures.parts.all) ∙ all_kept c.args.disk.now.geometry.extents

pub returns-clause-in_use : goal.returns-clause-in_use
returns-clause-in_use c = rw c.in_ok-chosen.ensures.geometry at c.in_ok-plan.ensures.parts.all
