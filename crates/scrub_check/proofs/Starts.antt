-- The starts of the items of a tiling.
use Rattle.std.proofs.Common.{◌≡◌, ◌<◌, ◌+◌, ℕ, zero, suc, List, [], ◌∷◌, map, length, get_or, slice_index, arith, ◌∙◌, subst, All}
use Rattle.std.specs.List.{Contains}
use Rattle.std.specs.List.Sorted.{IsStrictlyIncreasing}
use Rattle.std.proofs.lemmas.List.{length-map, get_or_default}
use Rattle.std.proofs.lemmas.List.Elements.{All-head, All-tail}
use Rattle.scrub_scan.specs.declared.item.Item.{Item}
use Rattle.scrub_scan.specs.Extent.{Extent}
use Rattle.scrub_scan.specs.Item.{start_of, stop_of, IsItem}
use Rattle.scrub_scan.specs.Tiling.{Joins, IsTiling}
use Rattle.scrub_scan.proofs.Tilings.{advances, one_tiling}
use Rattle.scrub_check.specs.Status.{BeginsAt}

-- they ascend
pub starts_rise : (x : Extent) (items : List Item) → 0 < x.page → IsTiling x items → IsStrictlyIncreasing (map start_of items)
starts_rise x items pos h = go 0 items h.joined h.each
  where
    go : (a : ℕ) (is : List Item) → Joins a x.pointer is → All (IsItem x) is → IsStrictlyIncreasing (map start_of is)
    go a [] j each k hk = absurd (omega arith)
    go a (i ∷ []) j each k hk = absurd (omega arith)
    go a (i ∷ next ∷ is) j each zero hk =
        let one = advances x i pos (All-head (IsItem x) i (next ∷ is) each) in omega (arith, one.0, j.1.0)
    go a (i ∷ next ∷ is) j each (suc k) hk =
        let more : get_or (map start_of (next ∷ is)) k 0 < get_or (map start_of (next ∷ is)) (k + 1) 0 =
        go (stop_of i) (next ∷ is) j.1 (All-tail (IsItem x) i (next ∷ is) each) k (omega (arith, hk)) in
        subst (λ (n : ℕ). get_or (map start_of (next ∷ is)) k 0 < get_or (map start_of (i ∷ next ∷ is)) n 0) {x = suc (k + 1)}
        (omega arith) more

-- An item of the tiling begins where the i-th one does.
pub begins : (x : Extent) (items : List Item) (i p : ℕ) → IsTiling x items → i < length items →
    slice_index (map start_of items) i ≡ p → BeginsAt x p
begins x items i p tiled below at =
    let inside : i < length (map start_of items) = omega (arith, below, length-map items start_of) in
    record { items = items; tiled = tiled; begins = (i, inside, get_or_default (map start_of items) i p 0 inside ∙ at) }

-- a place at which an item begins is among their starts
pub begins_among : (x : Extent) (items : List Item) (p : ℕ) → 0 < x.page → IsTiling x items → BeginsAt x p →
    Contains (map start_of items) p
begins_among x items p pos tiled b = rw (one_tiling x b.items items pos b.tiled tiled) at b.begins
