-- The doubts that spares make, by the index of the locators and the extents of candidates.
use Rattle.std.proofs.Common.{◌≡◌, ◌<◌, ◌+◌, ◌==◌, ◌&&◌, ◌||◌, ◌++◌, ◌∷◌, [], ℕ, Bool, true, false, not, cond, List, Some, None, OnOk, Result, get_or, length, map, take, arith, refl, sym, ◌∙◌, ap, subst, append-nil, if◌then◌else◌}
use Rattle.std.specs.List.{Contains, filter, flat_map, list_any, slice_get}
use Rattle.std.specs.List.Sorted.{IsPermutation}
use Rattle.std.proofs.lemmas.Bool.{eqb-true, false≢true}
use Rattle.std.proofs.lemmas.List.{take_more}
use Rattle.std.proofs.lemmas.List.Elements.{All-contains_itself, filter-append}
use Rattle.std.proofs.lemmas.List.Sorted.{list_any-IsPermutation}
use Rattle.std.proofs.lemmas.Option.{none-some, same_Some}
use Rattle.list_facts.proofs.Filters.{filter_comm}
use Rattle.scrub_scan.specs.declared.standing.Standing.{Standing}
use Rattle.scrub_scan.specs.Scanned.{Scanned}
use Rattle.scrub_check.specs.declared.statuses.checked.Checked.{Checked}
use Rattle.scrub_check.specs.Live.{has_sound_at}
use Rattle.scrub_check.specs.Spares.{AreSpares, HaveTheSameCopies, asks_for_spares, is_copy_of, spares_by}
use Rattle.scrub_listings.proofs.SpareLines.{flat_same}
use Rattle.scrub_reclaim.specs.declared.doubts.Doubt.{Doubt}
use Rattle.scrub_reclaim.specs.Doubts.{first_doubt, is_at_risk, spare_doubt, spare_doubts_by, spare_doubts_of, safe_spares}

-- Some element of `map f xs` passes `p` exactly if `p (f x)` is true of some element of `xs`.
pub any_mapped : {X Y : Type 0} (p : Y → Bool) (f : X → Y) (xs : List X) → list_any p (map f xs) ≡ list_any (λ x. p (f x)) xs
any_mapped p f [] = refl
any_mapped p f (x ∷ xs) = ap (λ (t : Bool). p (f x) || t) (any_mapped p f xs)

-- one more chunk stays, or doesn't
pub stays_too : (checked : List Checked) (extents : List ℕ) (s : Standing) (b : Bool) (old new : List Standing) →
    b ≡ is_at_risk checked extents s → b ≡ false → new ≡ old ++ s ∷ [] → new ≡ old ++ safe_spares checked extents (s ∷ [])
stays_too checked extents s b old new is safe grown =
    grown ∙ ap (λ (t : Bool). old ++ cond (not t) (s ∷ []) []) (sym safe ∙ is)

-- A chunk that a reset might take isn't added to those that stay.
pub at_risk_not_kept : (checked : List Checked) (extents : List ℕ) (s : Standing) (b : Bool) (old : List Standing) →
    b ≡ is_at_risk checked extents s → b ≡ true → old ≡ old ++ safe_spares checked extents (s ∷ [])
at_risk_not_kept checked extents s b old is risk =
    sym (append-nil old) ∙ ap (λ (t : Bool). old ++ cond (not t) (s ∷ []) []) (sym risk ∙ is)

-- Those that stay of the first `i` chunks, and the next one if it stays, are those of the first `i + 1`.
pub safe_spares_more : (checked : List Checked) (extents : List ℕ) (some : List Standing) (i : ℕ) (s : Standing) (old new : List Standing) →
    i < length some → s ≡ get_or some i s → old ≡ safe_spares checked extents (take i some) →
    new ≡ old ++ safe_spares checked extents (s ∷ []) → new ≡ safe_spares checked extents (take (i + 1) some)
safe_spares_more checked extents some i s old new below is so_far grown =
    let p : Standing → Bool = λ x. not (is_at_risk checked extents x) in
    grown
    ∙ ap (λ (ss : List Standing). ss ++ filter p (s ∷ [])) so_far
    ∙ sym (filter-append p (take i some) (s ∷ []))
    ∙ ap (filter p) (ap (λ (x : Standing). take i some ++ x ∷ []) is ∙ sym (take_more some i s below))

-- ---- the doubt of one locator

module _ (doubt_of : Standing → Doubt) where
  -- If one of its copies stays, a locator makes no doubt.
  pub one_left : (some stay : List Standing) (old : List Doubt) → (length stay == 0) ≡ false → old ≡ old ++ first_doubt doubt_of some stay
  one_left [] stay old is = sym (append-nil old)
  one_left (s ∷ ss) [] old is = absurd (false≢true (sym is))
  one_left (s ∷ ss) (t ∷ ts) old is = sym (append-nil old)

  -- A locator without copies makes no doubt.
  pub no_copy : (some stay : List Standing) (old : List Doubt) → slice_get some 0 ≡ None → old ≡ old ++ first_doubt doubt_of some stay
  no_copy [] stay old is = sym (append-nil old)
  no_copy (s ∷ ss) stay old is = absurd (none-some s (sym is))

  -- If none of its copies stays, its doubt is of the first one.
  pub first_doubted : {E : Type 0} (r : Result (Unit {0}) E) (some stay : List Standing) (first : Standing) (old new : List Doubt) →
      (length stay == 0) ≡ true → slice_get some 0 ≡ Some first → OnOk r (new ≡ old ++ doubt_of first ∷ []) →
      OnOk r (new ≡ old ++ first_doubt doubt_of some stay)
  first_doubted r [] stay first old new none is later = absurd (none-some first is)
  first_doubted r (s ∷ ss) (t ∷ ts) first old new none is later =
      let e : length (t ∷ ts) ≡ 0 = eqb-true (length (t ∷ ts)) 0 none in absurd (omega (arith, e))
  first_doubted r (s ∷ ss) [] first old new none is later =
      subst (λ (x : Standing). OnOk r (new ≡ old ++ doubt_of x ∷ [])) (sym (same_Some s first is)) later

-- ---- the doubts of all

module _ (all : List Scanned) (checked : List Checked) (found : List Standing) (are : AreSpares all checked found)
    (numbers sorted : List ℕ) (same : IsPermutation numbers sorted) (safe stay : List Standing)
    (safe_is : safe ≡ safe_spares checked sorted found) (alike : HaveTheSameCopies safe stay) where
  among : (e : ℕ) → list_any (λ n. n == e) sorted ≡ list_any (λ n. n == e) numbers
  among e = sym (list_any-IsPermutation (λ n. n == e) numbers sorted same)

  in_order : safe_spares checked sorted ≡ safe_spares checked numbers
  in_order = λ i ss. filter (λ s. not (not (has_sound_at checked s.extent s.offset) && among s.extent i)) ss

  stay_of : (c : Checked) → spares_by stay c ≡ safe_spares checked numbers (spares_by found c)
  stay_of c = by (asks_for_spares c) refl
    where
      by : (b : Bool) → asks_for_spares c ≡ b →
          (if asks_for_spares c then filter (is_copy_of c.locator) stay else []) ≡ safe_spares checked numbers (if asks_for_spares c then filter (is_copy_of c.locator) found else [])
      by true asks =
          ap (λ (b : Bool). if b then filter (is_copy_of c.locator) stay else []) asks
          ∙ alike c.locator
          ∙ ap (filter (is_copy_of c.locator)) (safe_is ∙ ap (λ (f : List Standing → List Standing). f found) in_order)
          ∙ filter_comm (is_copy_of c.locator) (λ s. not (is_at_risk checked numbers s)) found
          ∙ sym (ap (λ (b : Bool). safe_spares checked numbers (if b then filter (is_copy_of c.locator) found else [])) asks)
      by false none =
          ap (λ (b : Bool). if b then filter (is_copy_of c.locator) stay else []) none
          ∙ sym (ap (λ (b : Bool). safe_spares checked numbers (if b then filter (is_copy_of c.locator) found else [])) none)

  one_alike : (c : Checked) → Contains checked c → spare_doubts_by found stay c ≡ spare_doubts_of all checked numbers c
  one_alike c there =
      ap (first_doubt (spare_doubt c.owner) (spares_by found c)) (stay_of c)
      ∙ ap (λ (ss : List Standing). first_doubt (spare_doubt c.owner) ss (safe_spares checked numbers ss)) (are c there)

  -- The doubts by the chunks that stay are those that resets of these extents make.
  pub all_alike : flat_map (spare_doubts_by found stay) checked ≡ flat_map (spare_doubts_of all checked numbers) checked
  all_alike =
      flat_same (spare_doubts_by found stay) (spare_doubts_of all checked numbers) checked
      (λ i d below. one_alike (get_or checked i d) (All-contains_itself checked i d below))
