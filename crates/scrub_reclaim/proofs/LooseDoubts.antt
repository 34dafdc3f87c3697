-- The doubts that loose copies and crowded extents make, and the closed extents, by the copies that the code keeps.
use Rattle.std.proofs.Common.{◌≡◌, ◌==◌, ◌||◌, ◌∷◌, [], ℕ, Bool, true, false, not, List, get_or, length, map, refl, sym, ◌∙◌, ap, subst, if◌then◌else◌}
use Rattle.std.proofs.Math.Path.{ap₂}
use Rattle.std.specs.List.{Contains, filter, flat_map, list_any}
use Rattle.std.specs.List.Sorted.{IsPermutation}
use Rattle.std.proofs.lemmas.Bool.{and_parts}
use Rattle.std.proofs.lemmas.List.Elements.{All-contains_itself}
use Rattle.std.proofs.lemmas.List.Folds.{Any-from_list_any, list_any-append}
use Rattle.std.proofs.lemmas.List.Sorted.{list_any-IsPermutation}
use Rattle.list_facts.proofs.Elements.{Contains-from_filter, Contains-from_map, Contains-map}
use Rattle.list_facts.proofs.Filters.{filter_comm}
use Rattle.scrub_scan.specs.declared.standing.Standing.{Standing}
use Rattle.scrub_scan.specs.Scanned.{Scanned}
use Rattle.scrub_check.specs.declared.statuses.checked.Checked.{Checked}
use Rattle.scrub_check.specs.Spares.{HaveTheSameCopies, asks_for_spares, is_copy_of, spares_by}
use Rattle.scrub_loose.specs.Copies.{CopiesValue, is_gone_by, loose_by}
use Rattle.scrub_loose.specs.Loose.{LooseValue, loose_of}
use Rattle.scrub_listings.proofs.SpareLines.{flat_same}
use Rattle.scrub_reclaim.specs.declared.doubts.Doubt.TheVariants.{Crowded}
use Rattle.scrub_reclaim.specs.Doubts.{crowded_doubt, crowded_now, first_doubt, is_in, loose_doubt, loose_doubts_of, outside}
use Rattle.scrub_reclaim.specs.Room.{holds_loose, is_closed}
use Rattle.scrub_reclaim.specs.steps.KeptCopies.{AreKept, closed_by, loose_doubts_by}
use Rattle.scrub_reclaim.proofs.BestCopies.{none_in_nil}
use Rattle.scrub_reclaim.proofs.LooseLaw.{any_of}

-- ---- the doubts of all

module _ (all : List Scanned) (checked : List Checked) (loose : LooseValue) (v : CopiesValue) (kept : AreKept all checked loose v)
    (numbers sorted : List ℕ) (same : IsPermutation numbers sorted) where
  among : (e : ℕ) → list_any (λ n. n == e) sorted ≡ list_any (λ n. n == e) numbers
  among e = sym (list_any-IsPermutation (λ n. n == e) numbers sorted same)

  module _ (safe stay : List Standing) (safe_is : safe ≡ outside sorted v.loose) (alike : HaveTheSameCopies safe stay) where
    in_order : outside sorted v.loose ≡ outside numbers v.loose
    in_order = λ i. filter (λ s. not (among s.extent i)) v.loose

    stay_of : (c : Checked) → is_gone_by v.spares c ≡ true → spares_by stay c ≡ outside numbers (loose_by v c)
    stay_of c gone =
        ap (λ (b : Bool). if b then filter (is_copy_of c.locator) stay else [])
        (and_parts (asks_for_spares c) (length (spares_by v.spares c) == 0) gone).0
        ∙ alike c.locator
        ∙ ap (filter (is_copy_of c.locator)) (safe_is ∙ in_order)
        ∙ filter_comm (is_copy_of c.locator) (λ s. not (is_in numbers s)) v.loose
        ∙ sym (ap (λ (b : Bool). outside numbers (if b then filter (is_copy_of c.locator) v.loose else [])) gone)

    one_alike : (c : Checked) → Contains checked c → loose_doubts_by v stay c ≡ loose_doubts_of all loose.frames numbers c
    one_alike c there = by (is_gone_by v.spares c) refl
      where
        by : (b : Bool) → is_gone_by v.spares c ≡ b → loose_doubts_by v stay c ≡ loose_doubts_of all loose.frames numbers c
        by true gone =
            ap (first_doubt (loose_doubt c.owner) (loose_by v c)) (stay_of c gone)
            ∙ ap (λ (ss : List Standing). first_doubt (loose_doubt c.owner) ss (outside numbers ss)) (kept.each c there)
        by false some =
            let none : loose_by v c ≡ [] = ap (λ (b : Bool). if b then filter (is_copy_of c.locator) v.loose else []) some in
            ap (λ (ss : List Standing). first_doubt (loose_doubt c.owner) ss (spares_by stay c)) none
            ∙ sym (ap (λ (ss : List Standing). first_doubt (loose_doubt c.owner) ss (outside numbers ss)) (sym (kept.each c there) ∙ none))

    -- The doubts by the frames that stay are those that resets of these extents make.
    pub all_loose_alike : flat_map (loose_doubts_by v stay) checked ≡ flat_map (loose_doubts_of all loose.frames numbers) checked
    all_loose_alike =
        flat_same (loose_doubts_by v stay) (loose_doubts_of all loose.frames numbers) checked
        (λ i d below. one_alike (get_or checked i d) (All-contains_itself checked i d below))

  -- The doubts of crowded extents are those by the crowded ones that are kept.
  pub crowded_alike : flat_map (crowded_doubt sorted) v.crowded ≡ flat_map (crowded_doubt numbers) (crowded_now all loose.crowded checked)
  crowded_alike =
      (λ i. flat_map (λ e. if among e i then Crowded e ∷ [] else []) v.crowded) ∙ ap (flat_map (crowded_doubt numbers)) kept.crowded

-- ---- the closed extents

-- what is true of one just if of the other
as_true : (a b : Bool) → (a ≡ true → b ≡ true) → (b ≡ true → a ≡ true) → a ≡ b
as_true true b to from = sym (to refl)
as_true false true to from = from refl
as_true false false to from = refl

module _ (all : List Scanned) (checked : List Checked) (loose : LooseValue) (v : CopiesValue) (kept : AreKept all checked loose v) (e : ℕ) where
  -- a frame that is kept is a loose copy
  held : list_any (λ n. n == e) (map (λ s. s.extent) v.loose) ≡ true → holds_loose all loose.frames checked e ≡ true
  held is =
      let one = Any-from_list_any (λ n. n == e) (map (λ s. s.extent) v.loose) is in
      let from = Contains-from_map (λ (s : Standing). s.extent) v.loose one.1 (one.0, one.2, one.3) in
      let asked = kept.asked from.0 from.1 in
      any_of (λ c. list_any (λ s. s.extent == e) (loose_of all loose.frames c)) checked asked.0 asked.1
      (any_of (λ s. s.extent == e) (loose_of all loose.frames asked.0) from.0 asked.2 (ap (λ (n : ℕ). n == e) from.2 ∙ one.4))

  -- and a loose copy is kept
  kept_too : holds_loose all loose.frames checked e ≡ true → list_any (λ n. n == e) (map (λ s. s.extent) v.loose) ≡ true
  kept_too is =
      let one = Any-from_list_any (λ c. list_any (λ s. s.extent == e) (loose_of all loose.frames c)) checked is in
      let two = Any-from_list_any (λ s. s.extent == e) (loose_of all loose.frames one.1) one.4 in
      let there : Contains (loose_by v one.1) two.1 =
      subst (λ (ss : List Standing). Contains ss two.1) (sym (kept.each one.1 (one.0, one.2, one.3))) (two.0, two.2, two.3) in
      any_of (λ n. n == e) (map (λ s. s.extent) v.loose) two.1.extent (Contains-map (λ (s : Standing). s.extent) v.loose two.1 (kept_one one.1 two.1 there)) two.4
    where
      kept_one : (c : Checked) (s : Standing) → Contains (loose_by v c) s → Contains v.loose s
      kept_one c s = by (is_gone_by v.spares c)
        where
          by : (b : Bool) → Contains (if b then filter (is_copy_of c.locator) v.loose else []) s → Contains v.loose s
          by true there = (Contains-from_filter (is_copy_of c.locator) v.loose s there).0
          by false there = absurd (none_in_nil s there)

  -- The numbers that the code sorts are those of the closed extents.
  pub closed_are : (shut : List ℕ) → IsPermutation (closed_by v) shut → list_any (λ n. n == e) shut ≡ is_closed all loose checked e
  closed_are shut same =
      sym (list_any-IsPermutation (λ n. n == e) (closed_by v) shut same)
      ∙ list_any-append (λ n. n == e) (map (λ s. s.extent) v.loose) v.crowded
      ∙ ap₂ (λ (a b : Bool). a || b)
      (as_true (list_any (λ n. n == e) (map (λ s. s.extent) v.loose)) (holds_loose all loose.frames checked e) held kept_too)
      (ap (list_any (λ n. n == e)) kept.crowded)
