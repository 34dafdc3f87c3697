-- Slots for the results of planned extents, as they are filled.
use Rattle.std.proofs.Common.{refl, ◌≡◌, ◌<◌, ◌≤◌, ℕ, List, [], ◌∷◌, true, false, not, length, get_or, set, map, replicate, position, arith, sym, ◌∙◌, ap, Some, None, Option, IfSome, zero, suc, inl, inr}
use Rattle.std.specs.List.{AllZip, Contains, position_or_len}
use Rattle.std.specs.List.Sorted.{IsPermutation, IsStrictlyIncreasing}
use Rattle.std.specs.Option.{is_some}
use Rattle.std.proofs.lemmas.Grind.{common_steps}
use Rattle.std.proofs.lemmas.Bool.{true≢false, cases_lt}
use Rattle.std.proofs.lemmas.Simd.{map-map}
use Rattle.std.proofs.lemmas.Slice.Zip.{AllZip-long}
use Rattle.std.proofs.lemmas.List.Elements.{All-contains_itself, Contains-get_or}
use Rattle.std.proofs.lemmas.List.Quantifiers.{position-Some}
use Rattle.std.proofs.lemmas.List.Sorted.{IsPermutation-refl, IsPermutation-trans, IsPermutation-cons, IsPermutation-middle, IsPermutation-map}
use Rattle.list_facts.proofs.Bools.{false_from_not, true_from_not}
use Rattle.list_facts.proofs.Elements.{Contains-behind}
use Rattle.list_facts.proofs.Options.{None_from_not_some}
use Rattle.list_facts.proofs.Rising.{one_place_if_rising, rising_never_falls}
use Rattle.scrub_disk.specs.Image.{Image}
use Rattle.scrub_super.specs.Plan.{PlanValue, IsRestricted, pointer_of}
use Rattle.scrub_scan.specs.declared.extent_result.ExtentResult.{ExtentResult}
use Rattle.scrub_scan.specs.Scanned.{result_image, scanned}
use Rattle.scrub_scan.specs.AllFindings.{extent_numbers}
use Rattle.scrub_scan.specs.Slots.{held_in, AreFull, IsPlannedResult, AreSlots, scanned_in}
use Rattle.scrub_scan.proofs.Slots.{all_found}
use Rattle.scrub_book.specs.Book.{BookValue, IsResultAdded, IsLeastMissing, HasAll}

module _ {X : Type 0} where
  -- empty slots hold nothing
  pub held_none : (n : ℕ) → held_in {X = X} (replicate n None) ≡ []
  held_none zero = refl
  held_none (suc n) = held_none n

  -- filling an empty slot adds its value to those held
  pub held_set : (slots : List (Option X)) (i : ℕ) (d : Option X) (x : X) → i < length slots →
      is_some (get_or slots i d) ≡ false → IsPermutation (x ∷ held_in slots) (held_in (set slots i (Some x)))
  held_set [] i d x below empty = absurd (omega (arith, below))
  held_set (None ∷ slots) zero d x below empty = IsPermutation-refl (x ∷ held_in slots)
  held_set (Some y ∷ slots) zero d x below empty = absurd (true≢false empty)
  held_set (None ∷ slots) (suc i) d x below empty = held_set slots i d x (omega (arith, below)) empty
  held_set (Some y ∷ slots) (suc i) d x below empty =
      IsPermutation-trans (x ∷ y ∷ held_in slots) (y ∷ x ∷ held_in slots) (y ∷ held_in (set slots i (Some x)))
      (IsPermutation-middle (x ∷ []) y (held_in slots))
      (IsPermutation-cons y (x ∷ held_in slots) (held_in (set slots i (Some x))) (held_set slots i d x (omega (arith, below)) empty))

  -- if no slot before the end is empty, all are full
  full_before : (slots : List (Option X)) → length slots ≤ position_or_len (λ slot. not (is_some slot)) slots →
      AreFull slots
  full_before [] past = refl
  full_before (None ∷ slots) past = absurd (omega (arith, past))
  full_before (Some x ∷ slots) past = full_before slots (omega (arith, past))

  -- the first empty slot, as the code finds it
  pub first_empty_is : {xs slots : List (Option X)} {o : Option ℕ} → o ≡ position (λ slot. not (is_some slot)) xs →
      xs ≡ slots → position (λ slot. not (is_some slot)) slots ≡ o
  first_empty_is is same = ap (position (λ slot. not (is_some slot))) (sym same) ∙ sym is

  -- if no empty slot is found, all are full
  pub none_empty : (slots : List (Option X)) → is_some (position (λ slot. not (is_some slot)) slots) ≡ false →
      AreFull slots
  none_empty slots none =
      let is : position (λ slot. not (is_some slot)) slots ≡ None =
      None_from_not_some (position (λ slot. not (is_some slot)) slots) none in
      full_before slots (grind (arith, common_steps, is))

  -- the first empty slot, and those before it
  pub first_empty_at : (slots : List (Option X)) (i : ℕ) (d : Option X) →
      position (λ slot. not (is_some slot)) slots ≡ Some i →
      (i < length slots) × (is_some (get_or slots i d) ≡ false) × ((k : ℕ) → k < i → is_some (get_or slots k d) ≡ true)
  first_empty_at slots i d is =
      let facts = position-Some (λ slot. not (is_some slot)) slots i d is in (
        facts.0,
        false_from_not (is_some (get_or slots i d)) facts.1,
        λ k less. true_from_not (is_some (get_or slots k d)) (facts.2 k less),
      )

  module _ {A : Type 0} (R : A → X → Type 0) where
    -- empty slots break no relation
    pub zip_none : (es : List A) → AllZip (λ e slot. IfSome slot (R e)) es (replicate (length es) None)
    zip_none [] = tt
    zip_none (e ∷ es) = (tt, zip_none es)

    -- nor do they once a slot is filled with what belongs there
    pub zip_set : (es : List A) (slots : List (Option X)) (i : ℕ) (d : A) (x : X) → i < length es →
        R (get_or es i d) x → AllZip (λ e slot. IfSome slot (R e)) es slots →
        AllZip (λ e slot. IfSome slot (R e)) es (set slots i (Some x))
    zip_set [] slots i d x below is h = absurd (omega (arith, below))
    zip_set (e ∷ es) [] i d x below is h = absurd h
    zip_set (e ∷ es) (slot ∷ slots) zero d x below is h = (is, h.1)
    zip_set (e ∷ es) (slot ∷ slots) (suc i) d x below is h = (h.0, zip_set es slots i d x (omega (arith, below)) is h.1)

    module _ (number : X → A) (gives : (a : A) (x : X) → R a x → number x ≡ a) where
      -- the number of a filled slot is among the numbers of what is held
      pub number_came : (es : List A) (slots : List (Option X)) (i : ℕ) (d : A) (c : Option X) →
          AllZip (λ e slot. IfSome slot (R e)) es slots → i < length es → is_some (get_or slots i c) ≡ true →
          Contains (map number (held_in slots)) (get_or es i d)
      number_came [] slots i d c h below filled = absurd (omega (arith, below))
      number_came (e ∷ es) [] i d c h below filled = absurd h
      number_came (e ∷ es) (None ∷ slots) zero d c h below filled = absurd (true≢false (sym filled))
      number_came (e ∷ es) (Some x ∷ slots) zero d c h below filled = (0, omega arith, gives e x h.0)
      number_came (e ∷ es) (None ∷ slots) (suc i) d c h below filled =
          number_came es slots i d c h.1 (omega (arith, below)) filled
      number_came (e ∷ es) (Some x ∷ slots) (suc i) d c h below filled =
          Contains-behind (number x) (map number (held_in slots)) (get_or es i d)
          (number_came es slots i d c h.1 (omega (arith, below)) filled)

      -- each number of what is held is that of a filled slot
      pub came_from : (es : List A) (slots : List (Option X)) (e d : A) (c : Option X) →
          AllZip (λ e slot. IfSome slot (R e)) es slots → Contains (map number (held_in slots)) e →
          (j : ℕ) × (j < length es) × (is_some (get_or slots j c) ≡ true) × (get_or es j d ≡ e)
      came_from [] [] e d c h there = absurd (omega (arith, there.1))
      came_from [] (slot ∷ slots) e d c h there = absurd h
      came_from (f ∷ es) [] e d c h there = absurd h
      came_from (f ∷ es) (None ∷ slots) e d c h there =
          let rest = came_from es slots e d c h.1 there in
          (suc rest.0, omega (arith, rest.1), rest.2, rest.3)
      came_from (f ∷ es) (Some x ∷ slots) e d c h (zero, within, is) = (0, omega arith, refl, sym (gives f x h.0) ∙ is)
      came_from (f ∷ es) (Some x ∷ slots) e d c h (suc k, within, is) =
          let rest = came_from es slots e d c h.1 (k, omega (arith, within), is) in
          (suc rest.0, omega (arith, rest.1), rest.2, rest.3)

-- a plan restricted to all its planned extents is the same plan
pub same_plan : (old new : PlanValue) → IsRestricted old old.planned new → new ≡ old
same_plan old new h = λ i. record {
  geometry = h.geometry i;
  planned = h.planned i;
  retired = h.retired i;
  pointers = h.pointers i;
  runs = h.runs i;
  has_superblock = h.has i;
}

-- the book with these slots
abbrev pub book_of : {D : Type 0} {s : _} → D → PlanValue → List (Option (ExtentResult D s)) → BookValue D
book_of source plan slots = record { source = source; plan = plan; came = scanned_in slots }

module _ {D : Type 0} {s : _} (image : Image) (plan : PlanValue) (slots : List (Option (ExtentResult D s)))
    (are : AreSlots image plan slots) where
  numbers : extent_numbers (scanned_in slots) ≡ map (λ (r : ExtentResult D s). r.extent) (held_in slots)
  numbers = map-map (λ f. f.extent) (λ (r : ExtentResult D s). scanned r) (held_in slots)

  -- as many slots as planned extents
  pub place_count : length slots ≡ length plan.planned
  place_count = AllZip-long _ plan.planned slots are

  -- the extent of a filled slot has its result
  pub came_at : (i : ℕ) (d : Option (ExtentResult D s)) → i < length plan.planned → is_some (get_or slots i d) ≡ true →
      Contains (extent_numbers (scanned_in slots)) (get_or plan.planned i 0)
  came_at i d below filled =
      rw numbers
      (number_came (IsPlannedResult image plan) (λ (r : ExtentResult D s). r.extent) (λ e r h. h.extent_is) plan.planned slots i 0 d are below filled)

  -- that of an empty slot has none
  pub absent_at : IsStrictlyIncreasing plan.planned → (i : ℕ) (d : Option (ExtentResult D s)) →
      i < length plan.planned → is_some (get_or slots i d) ≡ false →
      ¬ Contains (extent_numbers (scanned_in slots)) (get_or plan.planned i 0)
  absent_at rising i d below empty = λ there.
      let from =
      came_from (IsPlannedResult image plan) (λ (r : ExtentResult D s). r.extent) (λ e r h. h.extent_is) plan.planned
      slots (get_or plan.planned i 0) 0 d are (rw numbers at there) in
      let same : from.0 ≡ i = one_place_if_rising plan.planned rising from.0 i from.1 below from.3 in
      true≢false (sym from.2 ∙ ap (λ n. is_some (get_or slots n d)) same ∙ empty)

  -- if all slots are full, each planned extent has its result
  pub has_all : (source : D) → AreFull slots → HasAll (book_of source plan slots)
  has_all source full = rw (all_found image plan slots are full).extents (All-contains_itself plan.planned)

  module _ (rising : IsStrictlyIncreasing plan.planned) (source : D) where
    -- with an empty slot, not each has
    pub not_all : is_some (position (λ slot. not (is_some slot)) slots) ≡ true → ¬ HasAll (book_of source plan slots)
    not_all some = λ all. by all (position (λ slot. not (is_some slot)) slots) refl some
      where
        by : HasAll (book_of source plan slots) → (o : Option ℕ) → position (λ slot. not (is_some slot)) slots ≡ o →
            is_some o ≡ true → ⊥
        by all None is there = true≢false (sym there)
        by all (Some i) is there =
            let first = first_empty_at slots i None is in
            let below : i < length plan.planned = omega (arith, first.0, place_count) in
            absent_at rising i None below first.1 (all i 0 below)

    -- the extent of the first empty slot is the least without a result
    pub least_at : (i : ℕ) → position (λ slot. not (is_some slot)) slots ≡ Some i →
        IsLeastMissing (book_of source plan slots) (get_or plan.planned i 0)
    least_at i is =
        let first = first_empty_at slots i None is in
        let below : i < length plan.planned = omega (arith, first.0, place_count) in record {
          planned = Contains-get_or plan.planned i 0 below;
          missing = absent_at rising i None below first.1;
          least = λ f there less. before first below f there less;
        }
      where
        before : (i < length slots) × (is_some (get_or slots i None) ≡ false) × ((k : ℕ) → k < i → is_some (get_or slots k None) ≡ true) →
            i < length plan.planned →
            (f : ℕ) → Contains plan.planned f → f < get_or plan.planned i 0 →
            Contains (extent_numbers (scanned_in slots)) f
        before first below f there less =
            let at : get_or plan.planned there.0 0 ≡ f = grind (arith, common_steps, there.1, there.2) in
            let sooner : there.0 < i = elim (cases_lt there.0 i) [
              | inl before-i ↦ before-i
              | inr more ↦
                  absurd
                  (omega (arith, at, less, rising_never_falls plan.planned rising i there.0 (omega (arith, more)) there.1))
            ] in
            rw at at (came_at there.0 None there.1 (first.2 there.0 sooner))

    module _ (i : ℕ) (r : ExtentResult D s) (below : i < length plan.planned)
        (number : get_or plan.planned i 0 ≡ r.extent) where
      is_planned : Contains plan.planned r.extent
      is_planned = rw number at (Contains-get_or plan.planned i 0 below)

      -- a result of this image belongs in the slot of its planned extent
      pub kept_set : result_image r ≡ image →
          (Contains plan.planned r.extent → pointer_of plan r.extent ≡ Some r.pointer) →
          AreSlots image plan (set slots i (Some r))
      kept_set of pointer = zip_set (IsPlannedResult image plan) plan.planned slots i 0 r below (record {
        image_is = of;
        extent_is = sym number;
        pointer_is = rw number (pointer is_planned);
      }) are

      module _ (d : Option (ExtentResult D s)) where
        -- in an empty slot it is one more result
        pub added_at : is_some (get_or slots i d) ≡ false →
            IsResultAdded (book_of source plan slots) (scanned r) (book_of source plan (set slots i (Some r)))
        added_at empty = record {
          planned = is_planned;
          first = rw number at (absent_at rising i d below empty);
          source = refl;
          plan = refl;
          came =
              IsPermutation-map (λ (x : ExtentResult D s). scanned x) (r ∷ held_in slots)
              (held_in (set slots i (Some r))) (held_set slots i d r (omega (arith, below, place_count)) empty);
        }

        -- in a filled slot it is a second one
        pub double_at : is_some (get_or slots i d) ≡ true →
            Contains plan.planned r.extent × Contains (extent_numbers (scanned_in slots)) r.extent
        double_at filled = (is_planned, rw number at (came_at i d below filled))
