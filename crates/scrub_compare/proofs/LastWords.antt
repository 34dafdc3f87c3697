-- Last words that stay or rise, by the ranks of the copies.
use Rattle.std.proofs.Common.{◌≡◌, ◌≢◌, ◌⊎◌, inl, inr, ◌<◌, ◌≤◌, ◌∷◌, [], true, false, List, Option, Some, None, nat_lt, arith, refl, sym, subst}
use Rattle.std.specs.List.{Contains}
use Rattle.std.proofs.lemmas.Bool.{false≢true, ltb-false}
use Rattle.list_facts.proofs.Bools.{false_from_not}
use Rattle.scrub_scan.specs.declared.standing.Standing.{Standing}
use Rattle.scrub_loose.specs.declared.copies.BestCopy.{BestCopy}
use Rattle.scrub_loose.specs.declared.copies.BestCopy.TheVariants.{Nowhere, Loose, Spare}
use Rattle.scrub_loose.specs.Loose.{best_among}
use Rattle.scrub_reclaim.specs.Copy.{rank}
use Rattle.scrub_reclaim.proofs.BestCopies.{loose_best, spare_best}
use Rattle.scrub_compare.specs.Compare.{has_no_less}

-- what isn't less has no lower rank
pub no_lower : (b d : BestCopy) → has_no_less (Some b) (Some d) ≡ true → rank b ≤ rank d
no_lower b d is = ltb-false (rank d) (rank b) (false_from_not (nat_lt (rank d) (rank b)) is)

-- and what has no lower rank isn't less
pub no_less_from : (b d : BestCopy) → rank b ≤ rank d → has_no_less (Some b) (Some d) ≡ true
no_less_from Nowhere Nowhere le = refl
no_less_from Nowhere Loose le = refl
no_less_from Nowhere Spare le = refl
no_less_from Loose Nowhere le = absurd (omega (arith, le))
no_less_from Loose Loose le = refl
no_less_from Loose Spare le = refl
no_less_from Spare Nowhere le = absurd (omega (arith, le))
no_less_from Spare Loose le = absurd (omega (arith, le))
no_less_from Spare Spare le = refl

-- Last words that are no less, one after the other.
pub no_less_more : (o p q : Option BestCopy) → has_no_less o p ≡ true → has_no_less p q ≡ true → has_no_less o q ≡ true
no_less_more None None q a b = b
no_less_more None (Some y) q a b = absurd (false≢true a)
no_less_more (Some x) None q a b = absurd (false≢true a)
no_less_more (Some x) (Some y) None a b = absurd (false≢true b)
no_less_more (Some x) (Some y) (Some z) a b =
    let low : rank x ≤ rank y = no_lower x y a in
    let high : rank y ≤ rank z = no_lower y z b in
    no_less_from x z (omega (arith, low, high))

-- ---- the best of some copies

-- If the best copy isn't nowhere, there is a spare or a loose copy.
pub some_copy : (ss ls : List Standing) → 0 < rank (best_among ss ls) →
    ((s : Standing) × Contains ss s) ⊎ ((l : Standing) × Contains ls l)
some_copy (s ∷ ss) ls some = inl (s, (0, omega arith, refl))
some_copy [] (l ∷ ls) some = inr (l, (0, omega arith, refl))
some_copy [] [] some = absurd (omega (arith, some))

-- With a loose copy the best copy isn't nowhere.
pub some_rank : (ss ls : List Standing) (l : Standing) → Contains ls l → 0 < rank (best_among ss ls)
some_rank ss [] l there = absurd (omega (arith, there.1))
some_rank [] (m ∷ ms) l there = subst (λ (b : BestCopy). 0 < rank b) (sym (loose_best m ms)) (omega arith)
some_rank (s ∷ ss) (m ∷ ms) l there = subst (λ (b : BestCopy). 0 < rank b) (sym (spare_best s ss (m ∷ ms))) (omega arith)
