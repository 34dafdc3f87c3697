-- Slots of which the first have results under a plan's write pointers, and the others are still to be looked at.
use Rattle.std.proofs.Common.{◌≡◌, ◌++◌, ◌∷◌, ◌∙◌, [], ℕ, List, Option, Some, All, Contains, IfSome, ap, append-nil, append_assoc, arith, length, map, refl, subst, suc, sym}
use Rattle.std.specs.List.{AllZip}
use Rattle.std.proofs.lemmas.List.{length-map, map-append, nil_from_length}
use Rattle.std.proofs.lemmas.List.Elements.{All-nil, All-push, Contains-append_right}
use Rattle.std.proofs.lemmas.Simd.{map-map}
use Rattle.scrub_disk.specs.Image.{Image}
use Rattle.scrub_super.specs.Plan.{PlanValue, pointer_of}
use Rattle.scrub_scan.specs.declared.extent_result.ExtentResult.{ExtentResult}
use Rattle.scrub_scan.specs.Scanned.{Scanned, result_image, scanned}
use Rattle.scrub_scan.specs.AllFindings.{extent_numbers}
use Rattle.scrub_scan.specs.Slots.{held_in, AreFull, AreSlots, IsPlannedResult, scanned_in}
use Rattle.scrub_scan.proofs.Slots.{full_push, held_push, slot_count, slots_of}

module _ {D : Type 0} {s : _} where
  -- the numbers of the extents of these results
  abbrev pub numbers_of : List (ExtentResult D s) → List ℕ
  numbers_of results = map (λ r. r.extent) results

  -- together they are of the planned extents, all are of this image, and the first are under the plan's write pointers
  pub record AreUnderSoFar (image : Image) (plan : PlanValue) (slots rest : List (Option (ExtentResult D s))) : Type 0 where
    pub extents : numbers_of (held_in slots) ++ numbers_of (held_in rest) ≡ plan.planned
    pub full : AreFull slots
    pub full_rest : AreFull rest
    pub images : All (λ r. result_image r ≡ image) (held_in slots)
    pub images_rest : All (λ r. result_image r ≡ image) (held_in rest)
    pub under : All (λ r. pointer_of plan r.extent ≡ Some r.pointer) (held_in slots)

  -- there are as many slots as planned extents
  pub as_many : (slots : List (Option (ExtentResult D s))) (all : List Scanned) (planned : List ℕ) → AreFull slots →
      scanned_in slots ≡ all → extent_numbers all ≡ planned → length slots ≡ length planned
  as_many slots all planned full are of =
      omega (arith, slot_count slots full, ap length are, length-map all (λ f. f.extent), ap length of)

  -- none of them has been looked at in the beginning
  pub none_under : (image : Image) (plan : PlanValue) (all : List Scanned) (slots rest : List (Option (ExtentResult D s))) → slots ≡ [] →
      AreFull rest → scanned_in rest ≡ all → extent_numbers all ≡ plan.planned → All (λ r. result_image r ≡ image) (held_in rest) →
      AreUnderSoFar image plan slots rest
  none_under image plan all slots rest none full are planned of =
      subst (λ (slots : List (Option (ExtentResult D s))). AreUnderSoFar image plan slots rest) (sym none)
      (record {
        extents = sym (map-map (λ f. f.extent) (λ (r : ExtentResult D s). scanned r) (held_in rest)) ∙ ap extent_numbers are ∙ planned;
        full = refl;
        full_rest = full;
        images = All-nil (λ r. result_image r ≡ image);
        images_rest = of;
        under = All-nil (λ r. pointer_of plan r.extent ≡ Some r.pointer);
      })

  module _ (image : Image) (plan : PlanValue) (slots now rest : List (Option (ExtentResult D s))) (old : ExtentResult D s)
      (so_far : AreUnderSoFar image plan slots now) (next : now ≡ Some old ∷ rest) where
    were : AreUnderSoFar image plan slots (Some old ∷ rest)
    were = rw next at so_far

    -- the next one is of a planned extent
    pub next_planned : Contains plan.planned old.extent
    next_planned =
        subst (λ (planned : List ℕ). Contains planned old.extent) were.extents
        (Contains-append_right (numbers_of (held_in slots)) (old.extent ∷ numbers_of (held_in rest)) old.extent (0, omega arith, refl))

    -- it is of this image
    pub next_image : result_image old ≡ image
    next_image = were.images_rest 0 old (omega arith)

    -- one more has been looked at, with a result for it under the plan's write pointer
    pub next_under : (more : List (Option (ExtentResult D s))) (new : ExtentResult D s) → more ≡ slots ++ Some new ∷ [] →
        result_image new ≡ image → new.extent ≡ old.extent → pointer_of plan old.extent ≡ Some new.pointer →
        AreUnderSoFar image plan more rest
    next_under more new pushed of same under =
        let held : held_in more ≡ held_in slots ++ new ∷ [] = ap held_in pushed ∙ held_push slots new in
        let left : List ℕ = numbers_of (held_in rest) in
        record {
          extents =
              ap (λ (rs : List (ExtentResult D s)). numbers_of rs ++ left) held
              ∙ ap (λ (ns : List ℕ). ns ++ left) (map-append (λ (r : ExtentResult D s). r.extent) (held_in slots) (new ∷ []))
              ∙ append_assoc (numbers_of (held_in slots)) (new.extent ∷ []) left
              ∙ ap (λ (e : ℕ). numbers_of (held_in slots) ++ e ∷ left) same ∙ were.extents;
          full = full_push slots more new were.full pushed;
          full_rest = were.full_rest;
          images =
              subst (λ (rs : List (ExtentResult D s)). All (λ r. result_image r ≡ image) rs) (sym held)
              (All-push (λ r. result_image r ≡ image) (held_in slots) new were.images of);
          images_rest = λ k d below. were.images_rest (suc k) d (omega (arith, below));
          under =
              subst (λ (rs : List (ExtentResult D s)). All (λ r. pointer_of plan r.extent ≡ Some r.pointer) rs) (sym held)
              (All-push (λ r. pointer_of plan r.extent ≡ Some r.pointer) (held_in slots) new were.under (ap (pointer_of plan) same ∙ under));
        }

  -- all have been looked at in the end
  pub all_under : (image : Image) (plan : PlanValue) (slots rest : List (Option (ExtentResult D s))) → AreUnderSoFar image plan slots rest →
      length rest ≡ 0 → AreSlots image plan slots
  all_under image plan slots rest so_far none =
      let were : AreUnderSoFar image plan slots [] = rw (nil_from_length rest none) at so_far in
      subst (λ (planned : List ℕ). AllZip (λ e slot. IfSome slot (λ r. IsPlannedResult image plan e r)) planned slots)
      (sym (append-nil (numbers_of (held_in slots))) ∙ were.extents) (slots_of image plan slots were.full were.images were.under)
