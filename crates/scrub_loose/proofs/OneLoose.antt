-- An image has one list of loose frames, and one of crowded extents.
use Rattle.std.proofs.Common.{◌≡◌, ℕ, List, get_or}
use Rattle.std.specs.Cmp.{IsTotalOrder, nat_cmp_total}
use Rattle.std.specs.List.{Contains}
use Rattle.std.specs.List.Sorted.{IsStrictlyIncreasing, IsStrictlySortedBy}
use Rattle.std.proofs.lemmas.Cmp.{on_total, then_total}
use Rattle.std.proofs.lemmas.List.Elements.{All-contains_itself}
use Rattle.std.proofs.lemmas.Map.Keys.{sorted_from_strictly_increasing}
use Rattle.list_facts.proofs.Sorted.{same_if_strictly_sorted}
use Rattle.scrub_disk.specs.Image.{Image}
use Rattle.scrub_super.specs.Plan.{PlanValue}
use Rattle.scrub_scan.specs.declared.standing.Standing.{Standing}
use Rattle.scrub_loose.specs.Loose.{AreLoose, LooseValue, place_cmp}

-- the order of frames is total
pub place_total : IsTotalOrder place_cmp
place_total = then_total (on_total (λ (s : Standing). s.extent) nat_cmp_total) (on_total (λ (s : Standing). s.offset) nat_cmp_total)

-- lists of extents that ascend and contain the same are the same
pub one_rising : (xs ys : List ℕ) → IsStrictlyIncreasing xs → IsStrictlyIncreasing ys → ((e : ℕ) → Contains xs e → Contains ys e) →
    ((e : ℕ) → Contains ys e → Contains xs e) → xs ≡ ys
one_rising xs ys s t there back =
    same_if_strictly_sorted nat_cmp_total xs ys (sorted_from_strictly_increasing xs s) (sorted_from_strictly_increasing ys t)
    (λ i e lt. there (get_or xs i e) (All-contains_itself xs i e lt))
    (λ i e lt. back (get_or ys i e) (All-contains_itself ys i e lt))

-- and so are lists of frames
pub one_by_place : (xs ys : List Standing) → IsStrictlySortedBy place_cmp xs → IsStrictlySortedBy place_cmp ys →
    ((s : Standing) → Contains xs s → Contains ys s) → ((s : Standing) → Contains ys s → Contains xs s) → xs ≡ ys
one_by_place xs ys s t there back =
    same_if_strictly_sorted place_total xs ys s t
    (λ i e lt. there (get_or xs i e) (All-contains_itself xs i e lt))
    (λ i e lt. back (get_or ys i e) (All-contains_itself ys i e lt))

-- so an image has one list of each
pub one_loose : (resets : List ℕ) (image : Image) (plan : PlanValue) (v w : LooseValue) → AreLoose resets image plan v →
    AreLoose resets image plan w → v ≡ w
one_loose resets image plan v w h k =
    let frames : v.frames ≡ w.frames =
    one_by_place v.frames w.frames h.frames_rise k.frames_rise (λ s there. (k.frames s).1 ((h.frames s).0 there))
    (λ s there. (h.frames s).1 ((k.frames s).0 there)) in
    let crowded : v.crowded ≡ w.crowded =
    one_rising v.crowded w.crowded h.crowded_rise k.crowded_rise (λ e there. (k.crowded e).1 ((h.crowded e).0 there))
    (λ e there. (h.crowded e).1 ((k.crowded e).0 there)) in
    λ i. record { frames = frames i; crowded = crowded i }
