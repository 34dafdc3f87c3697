-- The named locators sorted by the places that they point to, and those of one place among them.
use Rattle.std.proofs.Common.{◌≡◌, ◌&&◌, ◌≤◌, ◌-◌, ℕ, true, false, not, List, [], length, get_or, map, take, drop, arith, sym, ◌∙◌, ap, Ordering, nat_cmp, is_eq, is_lt, is_le}
use Rattle.std.proofs.Math.Path.{ap₂}
use Rattle.std.specs.Cmp.{IsTotalOrder, nat_cmp_total}
use Rattle.std.specs.List.{filter}
use Rattle.std.specs.List.Sorted.{IsStableByKey, IsPartitionPoint, ties}
use Rattle.std.specs.Borrow.{Bor}
use Rattle.std.proofs.lemmas.Slice.{between_is}
use Rattle.std.proofs.lemmas.Cmp.{then_total, on_total}
use Rattle.std.proofs.lemmas.List.Elements.{filter_agree}
use Rattle.list_facts.proofs.Filters.{filter_between, filter_mapped}
use Rattle.list_facts.proofs.Orders.{eq_if_neither_lt_nor_gt, is_eq-nat_cmp, is_eq-neither_lt, is_eq-ordering_then, not_eq_from_lt, not_eq_from_not_le}
use Rattle.scrub_check.specs.declared.statuses.checked.Checked.{Checked}
use Rattle.scrub_check.specs.declared.named.Owner.TheVariants.{Run}
use Rattle.scrub_check.specs.declared.statuses.status.Status.TheVariants.{Sound}
use Rattle.scrub_reclaim.specs.steps.Moves.{PointAlike, target_cmp, place_pointed_to}
use Rattle.scrub_reclaim.specs.Reclaimable.{points_to, pointing_to}

-- the locator of a reference, and its place
abbrev pub shown : Bor Checked → Checked
shown one = one.now

abbrev pub place_shown : Bor Checked → ℕ × ℕ
place_shown one = place_pointed_to one.now

-- the order of references by the places of their locators
abbrev pub shown_cmp : Bor Checked → Bor Checked → Ordering
shown_cmp a b = target_cmp (place_shown a) (place_shown b)

pub place_total : IsTotalOrder target_cmp
place_total = then_total (on_total (λ (a : ℕ × ℕ). a.0) nat_cmp_total) (on_total (λ (a : ℕ × ℕ). a.1) nat_cmp_total)

-- The order of references by the places of their locators is total.
pub shown_total : IsTotalOrder shown_cmp
shown_total = on_total place_shown place_total

-- a reference to a locator of this place
abbrev pub probe : ℕ → ℕ → Bor Checked
probe e p = record {
  ref_ptr = (0, 0);
  now = record {
    owner = Run 0;
    locator = record { extent = e; offset = p; length = 0; uuid = []; digest = [] };
    status = Sound;
  };
}

-- a locator points to a place exactly if it is neither below nor above one that does
pub points_there : (e p : ℕ) (one : Bor Checked) → points_to e p one.now ≡ is_eq (shown_cmp one (probe e p))
points_there e p one =
    sym
    (is_eq-ordering_then (nat_cmp one.now.locator.extent e) (nat_cmp one.now.locator.offset p) ∙ ap₂ (λ a b. a && b) (is_eq-nat_cmp one.now.locator.extent e) (is_eq-nat_cmp one.now.locator.offset p))

-- that is, if neither is below the other
pub ties_there : (e p : ℕ) (one : Bor Checked) →
    ties (λ a b. is_lt (shown_cmp a b)) (probe e p) one ≡ points_to e p one.now
ties_there e p one =
    ap (λ (r : Ordering). not (is_lt r) && not (is_lt (shown_cmp one (probe e p))))
    (shown_total.antisymm (probe e p) one)
    ∙ is_eq-neither_lt (shown_cmp one (probe e p)) ∙ sym (points_there e p one)

-- the references to locators of a place
abbrev pub shown_at : ℕ → ℕ → List (Bor Checked) → List (Bor Checked)
shown_at e p xs = filter (λ one. points_to e p one.now) xs

-- a stable sort keeps their order
pub stable_there : (xs ys : List (Bor Checked)) → IsStableByKey place_shown target_cmp xs ys → (e p : ℕ) →
    shown_at e p ys ≡ shown_at e p xs
stable_there xs ys stable e p =
    sym
    (filter_agree (ties (λ a b. is_lt (shown_cmp a b)) (probe e p)) (λ one. points_to e p one.now) (ties_there e p) ys)
    ∙ stable (probe e p)
    ∙ filter_agree (ties (λ a b. is_lt (shown_cmp a b)) (probe e p)) (λ one. points_to e p one.now) (ties_there e p) xs

-- so the sorted list has those of a place in their order
pub alike : (checked : List Checked) (xs ys : List (Bor Checked)) → map shown xs ≡ checked →
    IsStableByKey place_shown target_cmp xs ys → PointAlike checked ys
alike checked xs ys are stable e p =
    sym (filter_mapped (points_to e p) shown ys)
    ∙ ap (map shown) (stable_there xs ys stable e p)
    ∙ filter_mapped (points_to e p) shown xs
    ∙ ap (filter (points_to e p)) are

-- those of a place are between the ones below it and the ones above it
pub found_there : (ys : List (Bor Checked)) (e p below through : ℕ) →
    IsPartitionPoint (λ one. is_lt (shown_cmp one (probe e p)) ≡ true) (λ one. is_lt (shown_cmp one (probe e p)) ≡ false) ys below →
    IsPartitionPoint (λ one. is_le (shown_cmp one (probe e p)) ≡ true) (λ one. is_le (shown_cmp one (probe e p)) ≡ false) ys through →
    below ≤ through → through ≤ length ys → shown_at e p ys ≡ drop below (take through ys)
found_there ys e p below through lows highs le inside =
    filter_between (λ one. points_to e p one.now) ys below through le inside
    (λ k d lt. points_there e p (get_or ys k d) ∙ not_eq_from_lt _ (lows.0 k d (omega arith) lt))
    (λ k d from lt. points_there e p (get_or ys k d) ∙ eq_if_neither_lt_nor_gt _ (lows.1 k d from (omega (arith, lt, inside))) (highs.0 k d (omega arith) lt))
    (λ k d from lt. points_there e p (get_or ys k d) ∙ not_eq_from_not_le _ (highs.1 k d from lt))

-- so the part between them is those of the place
pub part_there : (checked : List Checked) (ys : List (Bor Checked)) (e p below through : ℕ) →
    IsPartitionPoint (λ one. is_lt (shown_cmp one (probe e p)) ≡ true) (λ one. is_lt (shown_cmp one (probe e p)) ≡ false) ys below →
    IsPartitionPoint (λ one. is_le (shown_cmp one (probe e p)) ≡ true) (λ one. is_le (shown_cmp one (probe e p)) ≡ false) ys through →
    below ≤ through → through ≤ length ys → PointAlike checked ys →
    map shown (take (through - below) (drop below ys)) ≡ pointing_to checked e p
part_there checked ys e p below through lows highs le inside same =
    ap (map shown) (between_is ys below through ∙ sym (found_there ys e p below through lows highs le inside))
    ∙ filter_mapped (points_to e p) shown ys ∙ same e p
