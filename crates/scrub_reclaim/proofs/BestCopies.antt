-- How the best copy of a named locator changes with what is scanned and with the loose frames.
use Rattle.std.proofs.Common.{◌≡◌, ◌≢◌, ◌≤◌, ◌==◌, ◌&&◌, ◌∷◌, [], ℕ, suc, Bool, true, false, List, length, arith, refl, sym, ◌∙◌, ap, subst, if◌then◌else◌}
use Rattle.std.proofs.Math.Path.{ap₂}
use Rattle.std.specs.List.{Contains, filter}
use Rattle.std.proofs.lemmas.Bool.{and_parts}
use Rattle.std.proofs.lemmas.Grind.{common_steps}
use Rattle.list_facts.proofs.Elements.{Contains-filter, Contains-from_filter, nil_has_no_first}
use Rattle.scrub_scan.specs.declared.standing.Standing.{Standing}
use Rattle.scrub_scan.specs.Scanned.{Scanned}
use Rattle.scrub_check.specs.declared.statuses.checked.Checked.{Checked}
use Rattle.scrub_check.specs.Spares.{asks_for_spares, is_copy_of, spares_of}
use Rattle.scrub_loose.specs.declared.copies.BestCopy.{BestCopy}
use Rattle.scrub_loose.specs.declared.copies.BestCopy.TheVariants.{Nowhere, Loose, Spare}
use Rattle.scrub_loose.specs.Loose.{best_among, best_of, is_gone, loose_of}
use Rattle.scrub_reclaim.specs.Copy.{rank}

-- ---- lists

-- nothing is in an empty list
pub none_in_nil : {X : Type 0} (x : X) → Contains [] x → ⊥
none_in_nil x there = omega (arith, there.1)

-- a list that isn't empty has a first element
pub first_of : {X : Type 0} (xs : List X) → xs ≢ [] → (x : X) × Contains xs x
first_of [] some = absurd (some refl)
first_of (x ∷ xs) some = (x, (0, omega arith, refl))

-- and one that has an element isn't empty
pub not_nil : {X : Type 0} (xs : List X) (x : X) → Contains xs x → xs ≢ []
not_nil xs x there none = none_in_nil x (subst (λ ys. Contains ys x) none there)

-- ---- ranks

-- a spare is the best
at_most_spare : (x : BestCopy) → rank x ≤ 2
at_most_spare Nowhere = omega arith
at_most_spare Loose = omega arith
at_most_spare Spare = omega arith

-- Copies of one rank are one.
pub one_of_rank : (x y : BestCopy) → rank x ≤ rank y → rank y ≤ rank x → x ≡ y
one_of_rank Nowhere Nowhere a b = refl
one_of_rank Nowhere Loose a b = absurd (omega (arith, b))
one_of_rank Nowhere Spare a b = absurd (omega (arith, b))
one_of_rank Loose Nowhere a b = absurd (omega (arith, a))
one_of_rank Loose Loose a b = refl
one_of_rank Loose Spare a b = absurd (omega (arith, b))
one_of_rank Spare Nowhere a b = absurd (omega (arith, a))
one_of_rank Spare Loose a b = absurd (omega (arith, a))
one_of_rank Spare Spare a b = refl

some_are : {X : Type 0} (x : X) (xs : List X) → (length (x ∷ xs) == 0) ≡ false
some_are x xs = positive (length xs)
  where
    positive : (n : ℕ) → (suc n == 0) ≡ false
    positive n = grind (arith, common_steps)

-- With a spare the best copy is one.
pub spare_best : (t : Standing) (ts ms : List Standing) → best_among (t ∷ ts) ms ≡ Spare
spare_best t ts ms =
    ap (λ (b : Bool). if b then (if length ms == 0 then Nowhere else Loose) else Spare) (some_are t ts)

-- Without one, with a loose copy, it is loose.
pub loose_best : (m : Standing) (ms : List Standing) → best_among [] (m ∷ ms) ≡ Loose
loose_best m ms = ap (λ (b : Bool). if b then Nowhere else Loose) (some_are m ms)

-- The best copy among some is no better than among others, if there are spares where there were some, and else loose copies where there
-- were some.
pub among_others : (ss ls ts ms : List Standing) → (ss ≢ [] → ts ≢ []) → (ls ≢ [] → ts ≡ [] → ms ≢ []) →
    rank (best_among ss ls) ≤ rank (best_among ts ms)
among_others ss ls (t ∷ ts) ms spares copies =
    subst (λ (x : BestCopy). rank (best_among ss ls) ≤ rank x) (sym (spare_best t ts ms)) (at_most_spare (best_among ss ls))
among_others (s ∷ ss) ls [] ms spares copies = absurd (spares (λ none. nil_has_no_first s ss (sym none)) refl)
among_others [] (l ∷ ls) [] (m ∷ ms) spares copies =
    let e : rank (best_among [] (l ∷ ls)) ≡ rank (best_among [] (m ∷ ms)) = ap rank (loose_best l ls ∙ sym (loose_best m ms)) in
    omega (arith, e)
among_others [] (l ∷ ls) [] [] spares copies = absurd (copies (λ none. nil_has_no_first l ls (sym none)) refl refl)
among_others [] [] [] ms spares copies = omega arith

-- ---- the copies of a locator

module _ (c : Checked) (fs gs : List Scanned) (loose others : List Standing) where
  -- a loose copy is a loose frame that has what the locator asks for, and the payload is gone
  pub loose_among : (s : Standing) → Contains (loose_of fs loose c) s →
      (is_gone fs c ≡ true) × (is_copy_of c.locator s ≡ true) × Contains loose s
  loose_among s = by (is_gone fs c) refl
    where
      by : (b : Bool) → is_gone fs c ≡ b → Contains (if b then filter (is_copy_of c.locator) loose else []) s →
          (is_gone fs c ≡ true) × (is_copy_of c.locator s ≡ true) × Contains loose s
      by true gone there =
          let from = Contains-from_filter (is_copy_of c.locator) loose s there in (gone, from.1, from.0)
      by false some there = absurd (none_in_nil s there)

  -- one that is also among other loose frames is a loose copy there, if there is no spare
  loose_too : (s : Standing) → Contains (loose_of fs loose c) s → Contains others s → spares_of gs c ≡ [] →
      Contains (loose_of gs others c) s
  loose_too s there too none =
      let is = loose_among s there in
      let asks : asks_for_spares c ≡ true = (and_parts (asks_for_spares c) (length (spares_of fs c) == 0) is.0).0 in
      let gone : is_gone gs c ≡ true = ap₂ (λ (a : Bool) (ss : List Standing). a && (length ss == 0)) asks none in
      subst (λ (b : Bool). Contains (if b then filter (is_copy_of c.locator) others else []) s) (sym gone)
      (Contains-filter (is_copy_of c.locator) others s is.1 too)

  -- If there are spares where there were some, and a loose copy stays where there were some, the best copy is as good or better.
  pub as_good : (spares_of fs c ≢ [] → spares_of gs c ≢ []) →
      (loose_of fs loose c ≢ [] → (s : Standing) × Contains (loose_of fs loose c) s × Contains others s) →
      rank (best_of fs loose c) ≤ rank (best_of gs others c)
  as_good spares copies =
      among_others (spares_of fs c) (loose_of fs loose c) (spares_of gs c) (loose_of gs others c) spares
      (λ some none.
      let one = copies some in not_nil (loose_of gs others c) one.0 (loose_too one.0 one.1 one.2 none))
