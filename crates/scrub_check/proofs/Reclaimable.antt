-- Which extents may be reclaimed: what the sorted locators say of an extent, and that candidates are in a strict order.
use Rattle.std.proofs.Common.{◌≡◌, ◌<◌, ◌≤◌, ◌+◌, ◌==◌, ◌≢◌, ◌&&◌, ◌||◌, ℕ, suc, Bool, true, false, not, cond, List, [], ◌∷◌, length, get_or, map, arith, refl, sym, ◌∙◌, ap, Result, Ok, Err, is_ok, Ordering, Less, Equal, Greater, nat_cmp, is_eq, is_lt, inl, inr}
use Rattle.std.specs.Ordering.{ordering_then, ordering_reverse}
use Rattle.std.specs.Cmp.{IsTotalOrder, nat_cmp_total}
use Rattle.std.specs.List.{All, AllPairs, filter, list_any, list_all, count_by}
use Rattle.std.specs.List.Sorted.{IsSorted, IsPermutation, IsStrictlySortedBy, IsStrictlyIncreasing, IsSearchInRange, IsBinarySearchResult}
use Rattle.std.proofs.lemmas.Cmp.{then_total, on_total, back_total}
use Rattle.std.proofs.lemmas.Bool.{cases_lt, eq-eqb}
use Rattle.std.proofs.lemmas.Map.Lookups.{exact_unsigned}
use Rattle.std.proofs.lemmas.List.Elements.{recursion_from_All}
use Rattle.std.proofs.lemmas.List.Folds.{list_any_at, list_any_none}
use Rattle.std.proofs.lemmas.List.Sums.{sum_by-cons, get_or-le-sum_by}
use Rattle.std.proofs.lemmas.List.Sorted.{searchable_from_sorted, list_any-IsPermutation, sum_by-IsPermutation, ranks_by, sorted_far, IsPermutation-refl}
use Rattle.list_facts.proofs.Counts.{count_map, rising_once, sum_by-filter-le}
use Rattle.list_facts.proofs.Orders.{is_eq-nat_cmp}
use Rattle.scrub_disk.specs.declared.geometry.Geometry.{Geometry}
use Rattle.scrub_super.specs.Plan.{PlanValue}
use Rattle.scrub_scan.specs.declared.item.Item.{Item}
use Rattle.scrub_scan.specs.Scanned.{Scanned}
use Rattle.scrub_scan.specs.AllFindings.{extent_numbers}
use Rattle.scrub_check.specs.declared.statuses.checked.Checked.{Checked}
use Rattle.scrub_check.specs.declared.places.chunk_at.ChunkAt.{ChunkAt}
use Rattle.scrub_check.specs.Checked.{is_sound}
use Rattle.scrub_check.specs.steps.SoundPlaces.{AreSoundPlaces, is_live, is_live_by}
use Rattle.scrub_check.specs.steps.LocatorIndex.{AreBarredExtents, reclaimable, by_free}
use Rattle.scrub_check.specs.Candidates.{CandidateValue, is_reclaimable, candidate_of, AreCandidates}
use Rattle.scrub_check.proofs.SortedPlaces.{live_sizes}

-- ---- the extents that locators name which aren't sound

-- a search among sorted numbers
pub found_number : (xs : List ℕ) (n : ℕ) (r : Result ℕ ℕ) → IsSorted nat_cmp xs → IsSearchInRange r (length xs) →
    IsBinarySearchResult (λ y. nat_cmp y n) xs r → is_ok r ≡ list_any (λ m. m == n) xs
found_number xs n (Ok i) sorted within result =
    sym (list_any_at (λ m. m == n) xs i n within (sym (is_eq-nat_cmp (get_or xs i n) n) ∙ ap is_eq (result n)))
found_number xs n (Err i) sorted within result =
    let point = result (searchable_from_sorted nat_cmp_total (λ y. y) xs n sorted) in
    sym (list_any_none (λ m. m == n) xs (λ k d below. elim (cases_lt k i) [
      | inl less ↦ sym (is_eq-nat_cmp (get_or xs k d) n) ∙ ap is_eq (point.0 k d (omega arith) less)
      | inr more ↦ sym (is_eq-nat_cmp (get_or xs k d) n) ∙ ap is_eq (point.1 k d more below)
    ]))

-- each locator to an extent is sound exactly if no other one names it
named_by_sound : (checked : List Checked) (e : ℕ) →
    list_all (λ c. not (c.locator.extent == e) || is_sound c.status) checked ≡ not (list_any (λ x. x == e) (map (λ c. c.locator.extent) (filter (λ c. not (is_sound c.status)) checked)))
named_by_sound [] e = refl
named_by_sound (c ∷ cs) e = by (is_sound c.status) (c.locator.extent == e) refl (named_by_sound cs e)
  where
    others : List Checked
    others = filter (λ c. not (is_sound c.status)) cs

    all : Bool
    all = list_all (λ c. not (c.locator.extent == e) || is_sound c.status) cs

    by : (s a : Bool) → (c.locator.extent == e) ≡ a → all ≡ not (list_any (λ x. x == e) (map (λ c. c.locator.extent) others)) →
        ((not a || s) && all) ≡ not (list_any (λ x. x == e) (map (λ c. c.locator.extent) (cond (not s) (c ∷ others) others)))
    by true true is more = more
    by true false is more = more
    by false true is more = sym (ap (λ b. not (b || list_any (λ x. x == e) (map (λ c. c.locator.extent) others))) is)
    by false false is more = more ∙ sym (ap (λ b. not (b || list_any (λ x. x == e) (map (λ c. c.locator.extent) others))) is)

-- Each locator into extent `e` is sound exactly if `e` isn't one of the barred extents.
pub named_by_sound_alone : (checked : List Checked) (extents : List ℕ) (e : ℕ) → AreBarredExtents checked extents →
    list_all (λ c. not (c.locator.extent == e) || is_sound c.status) checked ≡ not (list_any (λ x. x == e) extents)
named_by_sound_alone checked extents e are =
    named_by_sound checked e
    ∙ ap not (list_any-IsPermutation (λ x. x == e) (map (λ c. c.locator.extent) (filter (λ c. not (is_sound c.status)) checked)) extents are)

-- ---- the parts of a candidate

-- what holds of the chunks that are found by their starts holds of the live ones
pub parted_of_live : {Y : Type 0} (known : List Item → Y) (y : Y) (checked : List Checked) (starts : List ChunkAt) (e f : ℕ) (is js : List Item) →
    AreSoundPlaces checked starts → e ≡ f → is ≡ js →
    y ≡ known (filter (is_live_by starts e) is) → y ≡ known (filter (is_live checked f) js)
parted_of_live known y checked starts e f is js are same items h =
    h
    ∙ ap (λ n. known (filter (is_live_by starts n) is)) same
    ∙ ap (λ xs. known (filter (is_live_by starts f) xs)) items
    ∙ ap known (live_sizes checked starts f js are)

-- ---- each extent is a candidate once

-- how many of a list have this number
abbrev Having : {X : Type 0} → (X → ℕ) → ℕ → List X → ℕ
Having number e xs = count_by (λ x. number x == e) xs

pub each_once : (g : Geometry) (all : List Scanned) (checked : List Checked) (e : ℕ) →
    IsStrictlyIncreasing (extent_numbers all) → Having (λ c. c.extent) e (reclaimable g all checked) ≤ 1
each_once g all checked e rising =
    let one = count_map (λ c. c.extent == e) (candidate_of checked) (filter (is_reclaimable g checked) all) in
    let few : Having (λ f. f.extent) e (filter (is_reclaimable g checked) all) ≤ Having (λ f. f.extent) e all =
    sum_by-filter-le (λ f. cond (f.extent == e) 1 0) (is_reclaimable g checked) all in
    let numbers = count_map (λ n. n == e) (λ (f : Scanned). f.extent) all in
    let once : Having (λ n. n) e (extent_numbers all) ≤ 1 = rising_once (extent_numbers all) e rising in
    omega (arith, one, few, numbers, once)

-- ---- their order

-- Candidates are totally ordered by what they free, falling, and then by extent.
pub free_total : IsTotalOrder by_free
free_total =
    then_total (back_total (on_total (λ (c : CandidateValue). c.free) nat_cmp_total))
    (on_total (λ (c : CandidateValue). c.extent) nat_cmp_total)

-- what isn't above, nor of the same extent, is below
below_or_same : (a b : ℕ) (o p : Ordering) → (nat_cmp a b ≡ p) → is_lt (ordering_reverse (ordering_then o p)) ≡ false → a ≢ b →
    ordering_then o p ≡ Less
below_or_same a b Less p is up differ = refl
below_or_same a b Equal Less is up differ = refl
below_or_same a b Equal Equal is up differ = absurd (differ (exact_unsigned a b is))
below_or_same a b Equal Greater is up differ = absurd (cc)
below_or_same a b Greater p is up differ = absurd (cc)

-- sorted candidates are strictly sorted if no two are of one extent
strict_from_far : (cs : List CandidateValue) → AllPairs (λ a b. is_lt (by_free b a) ≡ false) cs →
    ((e : ℕ) → Having (λ c. c.extent) e cs ≤ 1) → IsStrictlySortedBy by_free cs
unfolding IsStrictlySortedBy
strict_from_far [] far once = tt
strict_from_far (c ∷ cs) far once = (
  recursion_from_All (λ d. by_free c d ≡ Less) cs below,
  strict_from_far cs (λ i j d lt within. far (suc i) (suc j) d (omega (arith, lt)) (omega (arith, within))) fewer,
)
  where
    whole : (e : ℕ) → Having (λ c. c.extent) e (c ∷ cs) ≡ cond (c.extent == e) 1 0 + Having (λ c. c.extent) e cs
    whole e = sum_by-cons (λ d. cond (d.extent == e) 1 0) c cs

    fewer : (e : ℕ) → Having (λ c. c.extent) e cs ≤ 1
    fewer e = omega (arith, whole e, once e)

    apart : (k : ℕ) (d : CandidateValue) → k < length cs → c.extent ≢ (get_or cs k d).extent
    apart k d lt same =
        let mine : (c.extent == c.extent) ≡ true = eq-eqb c.extent c.extent refl in
        let its : ((get_or cs k d).extent == c.extent) ≡ true = eq-eqb (get_or cs k d).extent c.extent (sym same) in
        let there : cond ((get_or cs k d).extent == c.extent) 1 0 ≤ Having (λ c. c.extent) c.extent cs =
        get_or-le-sum_by (λ d. cond (d.extent == c.extent) 1 0) cs k d lt in
        let one : 1 ≤ Having (λ c. c.extent) c.extent cs = rw its at there in
        let two : Having (λ c. c.extent) c.extent (c ∷ cs) ≡ 1 + Having (λ c. c.extent) c.extent cs =
        whole c.extent ∙ ap (λ b. cond b 1 0 + Having (λ c. c.extent) c.extent cs) mine in
        omega (arith, one, two, once c.extent)

    below : All (λ d. by_free c d ≡ Less) cs
    below k d lt =
        below_or_same c.extent (get_or cs k d).extent (nat_cmp (get_or cs k d).free c.free)
        (nat_cmp c.extent (get_or cs k d).extent) refl
        (ap is_lt (sym (free_total.antisymm (get_or cs k d) c)) ∙ far 0 (suc k) d (omega arith) (omega (arith, lt)))
        (apart k d lt)

-- so the sorted candidates are strictly sorted
pub strictly_sorted : (g : Geometry) (all : List Scanned) (checked : List Checked) (cs : List CandidateValue) →
    IsStrictlyIncreasing (extent_numbers all) →
    IsPermutation (reclaimable g all checked) cs → IsSorted by_free cs → IsStrictlySortedBy by_free cs
strictly_sorted g all checked cs rising same sorted =
    strict_from_far cs
    (λ i j d lt within. sorted_far _ (ranks_by free_total (λ a. a)) cs sorted i j d (omega (arith, lt)) within)
    (λ e. let moved : Having (λ c. c.extent) e cs ≡ Having (λ c. c.extent) e (reclaimable g all checked) = sum_by-IsPermutation (λ c. cond (c.extent == e) 1 0) (reclaimable g all checked) cs same in
    omega (arith, moved, each_once g all checked e rising))

-- ---- the candidates

no_candidates : IsStrictlySortedBy by_free []
unfolding IsStrictlySortedBy
no_candidates = tt

-- none, if it isn't known which locators there are
pub none_named : (plan : PlanValue) (all : List Scanned) (checked : List Checked) (in_doubt : Bool) (cs : List CandidateValue) →
    (plan.has_superblock && not in_doubt) ≡ false → cs ≡ [] → AreCandidates plan all checked in_doubt cs
none_named plan all checked in_doubt cs unknown none = record {
  filtered = rw unknown (rw none (IsPermutation-refl []));
  ordered = rw none no_candidates;
}

-- else the extents that may be reclaimed, sorted
pub all_named : (plan : PlanValue) (all : List Scanned) (checked : List Checked) (in_doubt : Bool) (found cs : List CandidateValue) →
    (plan.has_superblock && not in_doubt) ≡ true → IsStrictlyIncreasing (extent_numbers all) →
    found ≡ reclaimable plan.geometry all checked → IsPermutation found cs → IsSorted by_free cs →
    AreCandidates plan all checked in_doubt cs
all_named plan all checked in_doubt found cs known rising is same sorted =
    let moved : IsPermutation (reclaimable plan.geometry all checked) cs = rw is at same in
    record {
      filtered = rw known moved;
      ordered = strictly_sorted plan.geometry all checked cs rising moved sorted;
    }
