-- Slots that each have something, and what they have.
use Rattle.std.proofs.Common.{refl, ◌++◌, ◌&&◌, ◌≡◌, ◌<◌, ℕ, List, [], ◌∷◌, true, length, get_or, map, arith, sym, ◌∙◌, ap, Some, None, Option, IfSome, MatchOption, All, zero, suc}
use Rattle.std.specs.List.{AllZip, list_all}
use Rattle.std.specs.Option.{option_map_or, is_some}
use Rattle.std.proofs.lemmas.Bool.{true≢false}
use Rattle.std.proofs.lemmas.Option.{same_Some, none-some}
use Rattle.std.proofs.lemmas.List.Folds.{list_all-append}
use Rattle.std.proofs.lemmas.List.{get_or-map, length-map}
use Rattle.std.proofs.lemmas.List.Elements.{All-map}
use Rattle.std.proofs.lemmas.Simd.{map-map}
use Rattle.list_facts.proofs.Zips.{All-seconds, AllZip-map_back}
use Rattle.scrub_disk.specs.Image.{Image}
use Rattle.scrub_super.specs.Plan.{PlanValue, pointer_of}
use Rattle.scrub_scan.specs.declared.extent_result.ExtentResult.{ExtentResult}
use Rattle.scrub_scan.specs.Findings.{IsFindings}
use Rattle.scrub_scan.specs.Scanned.{Scanned, result_image, scanned}
use Rattle.scrub_scan.specs.AllFindings.{extent_numbers, HaveFindings, IsOfImage, AreAllFindings}
use Rattle.scrub_scan.specs.Slots.{held_in, AreFull, IsPlannedResult, AreSlots, first_source, scanned_in}

-- each of the things in full slots is in a slot
pub full_places : {X : Type 0} (slots : List (Option X)) → AreFull slots → slots ≡ map Some (held_in slots)
full_places [] full = refl
full_places (None ∷ slots) full = absurd (true≢false (sym full))
full_places (Some x ∷ slots) full = ap (λ rest. Some x ∷ rest) (full_places slots full)

-- as many as there are slots
pub full_length : {X : Type 0} (slots : List (Option X)) → AreFull slots → length (held_in slots) ≡ length slots
full_length slots full = sym (ap length (full_places slots full) ∙ length-map (held_in slots) Some)

-- what is in the i-th slot is the i-th
pub full_at : {X : Type 0} (slots : List (Option X)) (i : ℕ) (slot : Option X) (x y : X) → AreFull slots →
    i < length slots → get_or slots i slot ≡ Some x → get_or (held_in slots) i y ≡ x
full_at slots i slot x y full below is =
    same_Some (get_or (held_in slots) i y) x
    (sym (get_or-map Some (held_in slots) i y slot (omega (arith, below, full_length slots full))) ∙ ap (λ xs. get_or xs i slot) (sym (full_places slots full)) ∙ is)

-- no slot is empty
pub full_none : {X : Type 0} (slots : List (Option X)) (i : ℕ) (slot : Option X) → AreFull slots → i < length slots →
    get_or slots i slot ≡ None → ⊥
full_none [] i slot full below is = absurd (omega (arith, below))
full_none (None ∷ slots) i slot full below is = absurd (true≢false (sym full))
full_none (Some x ∷ slots) zero slot full below is = absurd (none-some x (sym is))
full_none (Some x ∷ slots) (suc i) slot full below is = full_none slots i slot full (omega (arith, below)) is

-- the number in each slot is that of what it has
pub full_numbers : {X : Type 0} (number : X → ℕ) (slots : List (Option X)) → AreFull slots →
    map (λ slot. option_map_or number slot 0) slots ≡ map number (held_in slots)
full_numbers number slots full =
    ap (map (λ slot. option_map_or number slot 0)) (full_places slots full)
    ∙ map-map (λ slot. option_map_or number slot 0) Some (held_in slots)

-- with one more that has something
pub full_push : {X : Type 0} (slots more : List (Option X)) (x : X) → AreFull slots → more ≡ slots ++ Some x ∷ [] →
    AreFull more
full_push slots more x full is =
    ap (list_all is_some) is ∙ list_all-append is_some slots (Some x ∷ []) ∙ ap (λ b. b && true) full

-- what holds of each slot and its planned extent holds of what the slot has
pub zipped : {A X : Type 0} (P : A → X → Type 0) (xs : List A) (slots : List (Option X)) →
    AllZip (λ a slot. IfSome slot (P a)) xs slots → AreFull slots → AllZip P xs (held_in slots)
zipped P [] [] h full = tt
zipped P [] (slot ∷ slots) h full = absurd h
zipped P (x ∷ xs) [] h full = absurd h
zipped P (x ∷ xs) (None ∷ slots) h full = absurd (true≢false (sym full))
zipped P (x ∷ xs) (Some y ∷ slots) h full = (h.0, zipped P xs slots h.1 full)

-- so are the numbers of the extents
pub slot_numbers : {D : Type 0} {s : _} (slots : List (Option (ExtentResult D s))) → AreFull slots →
    map (λ slot. option_map_or (λ r. r.extent) slot 0) slots ≡ extent_numbers (scanned_in slots)
slot_numbers {D} {s} slots full =
    full_numbers (λ (r : ExtentResult D s). r.extent) slots full
    ∙ sym (map-map (λ f. f.extent) (λ (r : ExtentResult D s). scanned r) (held_in slots))

-- there are as many slots as extents
pub slot_count : {D : Type 0} {s : _} (slots : List (Option (ExtentResult D s))) → AreFull slots →
    length (scanned_in slots) ≡ length slots
slot_count {D} {s} slots full =
    length-map (held_in slots) (λ (r : ExtentResult D s). scanned r) ∙ full_length slots full

-- one more full slot has one more thing at the end
pub held_push : {X : Type 0} (slots : List (Option X)) (x : X) → held_in (slots ++ Some x ∷ []) ≡ held_in slots ++ x ∷ []
held_push [] x = refl
held_push (None ∷ slots) x = held_push slots x
held_push (Some y ∷ slots) x = ap (λ rest. y ∷ rest) (held_push slots x)

-- all results of one image are of that of the first one's source
pub all_of_image : {D : Type 0} {s : _} (results : List (ExtentResult D s)) (one image : Image) →
    All (λ (r : ExtentResult D s). result_image r ≡ one) results →
    IsOfImage s.image (record { source = first_source results; extents = map (λ (r : ExtentResult D s). scanned r) results }) image →
    All (λ (r : ExtentResult D s). result_image r ≡ image) results
all_of_image [] one image of first = λ k d below. absurd (omega (arith, below))
all_of_image (r ∷ rs) one image of first = λ k d below. of k d below ∙ sym (of 0 r (omega arith)) ∙ first

-- full slots are those of the extents of their results, if each is of this image and under the plan's write pointer
pub slots_of : {D : Type 0} {s : _} (image : Image) (plan : PlanValue) (slots : List (Option (ExtentResult D s))) → AreFull slots →
    All (λ (r : ExtentResult D s). result_image r ≡ image) (held_in slots) →
    All (λ (r : ExtentResult D s). pointer_of plan r.extent ≡ Some r.pointer) (held_in slots) →
    AllZip (λ e slot. IfSome slot (λ r. IsPlannedResult image plan e r)) (map (λ (r : ExtentResult D s). r.extent) (held_in slots)) slots
slots_of image plan [] full of under = tt
slots_of image plan (None ∷ slots) full of under = absurd (true≢false (sym full))
slots_of image plan (Some r ∷ slots) full of under = (
  record { image_is = of 0 r (omega arith); extent_is = refl; pointer_is = under 0 r (omega arith) },
  slots_of image plan slots full (λ k d below. of (suc k) d (omega (arith, below))) (λ k d below. under (suc k) d (omega (arith, below))),
)

module _ {D : Type 0} {s : _} (image : Image) (plan : PlanValue) (slots : List (Option (ExtentResult D s)))
    (are : AreSlots image plan slots) (full : AreFull slots) where
  pairs : AllZip (IsPlannedResult image plan) plan.planned (held_in slots)
  pairs = zipped (IsPlannedResult image plan) plan.planned slots are full

  -- each is of this image
  pub of_image : All (λ (r : ExtentResult D s). result_image r ≡ image) (held_in slots)
  of_image =
      All-seconds (IsPlannedResult image plan) (λ r. result_image r ≡ image) (λ e r h. h.image_is) plan.planned
      (held_in slots) pairs

  -- so that of the first is
  pub of_first : IsOfImage s.image (record { source = first_source (held_in slots); extents = scanned_in slots }) image
  of_first = by (held_in slots) of_image
    where
      by : (rs : List (ExtentResult D s)) → All (λ (r : ExtentResult D s). result_image r ≡ image) rs →
          MatchOption (first_source rs) (map (λ (r : ExtentResult D s). scanned r) rs ≡ []) (λ d. s.image d ≡ image)
      by [] of = refl
      by (r ∷ rs) of = of 0 r (omega arith)

  -- they are the findings of the planned extents
  pub all_found : AreAllFindings image plan (scanned_in slots)
  all_found = record {
    extents =
        map-map (λ f. f.extent) (λ (r : ExtentResult D s). scanned r) (held_in slots)
        ∙ AllZip-map_back (IsPlannedResult image plan) (λ (r : ExtentResult D s). r.extent) (λ e r h. h.extent_is) plan.planned (held_in slots) pairs;
    pointers =
        All-map (λ (f : Scanned). pointer_of plan f.extent ≡ Some f.pointer) (λ (r : ExtentResult D s). scanned r)
        (held_in slots)
        (All-seconds (IsPlannedResult image plan) (λ r. pointer_of plan r.extent ≡ Some r.pointer) (λ e r h. ap (pointer_of plan) h.extent_is ∙ h.pointer_is) plan.planned (held_in slots) pairs);
    findings =
        All-map (λ (f : Scanned). IsFindings image f.extent f.pointer f.findings) (λ (r : ExtentResult D s). scanned r)
        (held_in slots)
        (All-seconds (IsPlannedResult image plan) (λ r. IsFindings image r.extent r.pointer r.findings) (λ e r h. rw h.image_is at r.found) plan.planned (held_in slots) pairs);
  }

  -- and those of the image of the first one's source
  pub held_there : MatchOption (first_source (held_in slots)) (scanned_in slots ≡ []) (λ d. HaveFindings (s.image d) (scanned_in slots))
  held_there = by (first_source (held_in slots)) of_first
    where
      by : (o : Option D) → MatchOption o (scanned_in slots ≡ []) (λ d. s.image d ≡ image) →
          MatchOption o (scanned_in slots ≡ []) (λ d. HaveFindings (s.image d) (scanned_in slots))
      by None h = h
      by (Some d) h = rw h all_found.findings
