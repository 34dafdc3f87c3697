-- The extents that are searched: those that are planned and not taken as reset.
use Rattle.std.proofs.Common.{◌≡◌, ◌==◌, ℕ, Bool, true, false, not, List, refl, sym, ◌∙◌, ap}
use Rattle.std.specs.List.{Contains, list_any}
use Rattle.std.specs.List.Sorted.{IsStrictlyIncreasing}
use Rattle.std.proofs.lemmas.Bool.{eq-eqb, false≢true, ltb-true}
use Rattle.std.proofs.lemmas.List.Folds.{list_any_at}
use Rattle.std.proofs.lemmas.List.Kept.{IsStrictlyIncreasing-filter}
use Rattle.list_facts.proofs.Counts.{any_counts, counted_contained}
use Rattle.list_facts.proofs.Elements.{Contains-filter, Contains-from_filter}
use Rattle.scrub_loose.specs.steps.Search.{searched}

-- they are among them, and not reset
pub searched_parts : (resets es : List ℕ) (e : ℕ) → Contains (searched resets es) e → Contains es e × (¬ Contains resets e)
searched_parts resets es e there =
    let h = Contains-from_filter (λ f. not (list_any (λ r. r == f) resets)) es e there in
    (h.0, λ among. false≢true (ap not (sym (list_any_at (λ r. r == e) resets among.0 e among.1 (eq-eqb _ e among.2))) ∙ h.1))

-- and they are all that are
pub searched_all : (resets es : List ℕ) (e : ℕ) → Contains es e → ¬ Contains resets e → Contains (searched resets es) e
searched_all resets es e among stays =
    Contains-filter (λ f. not (list_any (λ r. r == f) resets)) es e (by (list_any (λ r. r == e) resets) refl) among
  where
    by : (b : Bool) → list_any (λ r. r == e) resets ≡ b → not (list_any (λ r. r == e) resets) ≡ true
    by true is = absurd (stays (counted_contained resets e (ltb-true 0 _ (sym (any_counts (λ r. r == e) resets) ∙ is))))
    by false is = ap not is

-- they ascend, if those do
pub searched_rise : (resets es : List ℕ) → IsStrictlyIncreasing es → IsStrictlyIncreasing (searched resets es)
searched_rise resets es rising = IsStrictlyIncreasing-filter (λ f. not (list_any (λ r. r == f) resets)) es rising
