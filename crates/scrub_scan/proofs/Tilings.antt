-- Tilings: how one grows item by item, and that an extent has one.
use Rattle.std.proofs.Common.{◌≡◌, ◌<◌, ◌≤◌, ◌+◌, ◌*◌, ◌/◌, ◌%◌, ℕ, List, [], ◌∷◌, ◌++◌, length, arith, refl, sym, ◌∙◌, ap, inl, inr, All, Some, None, zero, suc, slice_get, subst, ◌⊎◌}
use Rattle.std.proofs.Math.Nat.{mod-lt}
use Rattle.std.proofs.lemmas.Bool.{cases_lt}
use Rattle.std.proofs.lemmas.Nat.{div-add-mod'}
use Rattle.std.proofs.lemmas.Option.{none-some, same_Some}
use Rattle.std.proofs.lemmas.List.Elements.{All-head, All-tail}
use Rattle.scrub_frame.specs.declared.form.Form.{Form}
use Rattle.scrub_frame.specs.Frame.{frame_overhead}
use Rattle.scrub_frame.proofs.Frames.{overhead}
use Rattle.scrub_scan.specs.declared.item.Item.{Item}
use Rattle.scrub_scan.specs.declared.item.Item.TheVariants.{Chunk, Pad, Torn, Noise, Lost}
use Rattle.sha2.specs.Sha256.{sha256}
use Rattle.scrub_scan.specs.Extent.{Extent, bound_above, IsZero}
use Rattle.scrub_scan.specs.Item.{start_of, stop_of, IsItem, Fits}
use Rattle.scrub_scan.specs.steps.OneFrame.{one_frame_at}
use Rattle.scrub_scan.specs.Tiling.{Covers, IsInOneItem, IsTiling, Joins}

-- one more item joins at the end
pub Joins-push : (a : ℕ) (items : List Item) (item : Item) → Joins a (start_of item) items →
    Joins a (stop_of item) (items ++ item ∷ [])
Joins-push a [] item h = (sym h, refl)
Joins-push a (first ∷ items) item h = (h.0, Joins-push (stop_of first) items item h.1)

-- a bound is above its place, and not above the pointer
pub is_below_bound : (x : Extent) (p : ℕ) → 0 < x.page → p < x.pointer → (p < bound_above x p) × (bound_above x p ≤ x.pointer)
is_below_bound x p pos h =
    let m : p % x.page < x.page = mod-lt p pos in
    let s : p < (p / x.page + 1) * x.page = omega (arith, div-add-mod' p x.page, m) in
    (omega (arith, s, h), omega arith)

-- an item stops above its start, and not above the pointer
pub advances : (x : Extent) (item : Item) → 0 < x.page → IsItem x item →
    (start_of item < stop_of item) × (stop_of item ≤ x.pointer)
advances x (Chunk f start stop u n digest) pos h =
    (omega (arith, overhead f, h.fits.2), omega (arith, h.fits.2, h.fits.1.fits))
advances x (Lost start stop) pos h =
    let b = is_below_bound x start pos h.below in
    (omega (arith, h.fits.0, b.0), omega (arith, h.fits.0, b.1))
advances x (Pad start stop) pos h =
    let b = is_below_bound x start pos h.below in
    (omega (arith, h.fits.0, b.0), omega (arith, h.fits.0, b.1))
advances x (Torn start stop) pos h =
    let b = is_below_bound x start pos h.below in
    (omega (arith, h.fits.0, b.0), omega (arith, h.fits.0, b.1))
advances x (Noise start stop) pos h =
    let b = is_below_bound x start pos h.below in
    (omega (arith, h.fits.0, b.0), omega (arith, h.fits.0, b.1))

-- two chunks of the same frame are the same
same_chunk : (x : Extent) (p : ℕ) (f : Form) (b : ℕ) (u : List ℕ) (n : ℕ) (d : List ℕ) (g : Form) (b' : ℕ) (v : List ℕ) (m : ℕ) (c : List ℕ) →
    Fits x (Chunk f p b u n d) → Fits x (Chunk g p b' v m c) → Chunk f p b u n d ≡ Chunk g p b' v m c
same_chunk x p f b u n d g b' v m c h k =
    let s : (f ≡ g) × (u ≡ v) × (h.0 ≡ k.0) = one_frame_at x p f u h.0 g v k.0 h.1 k.1 in
    let e : n ≡ m = h.3 ∙ ap length s.2 ∙ sym k.3 in
    let stop : b ≡ b' =
    h.2 ∙ ap (λ t. p + length t + frame_overhead f) s.2
    ∙ ap (λ (o : Form). p + length k.0 + frame_overhead o) s.0 ∙ sym k.2 in
    let sha : d ≡ c = h.4 ∙ ap sha256 s.2 ∙ sym k.4 in
    ap (λ z. Chunk z p b u n d) s.0 ∙ ap (λ z. Chunk g p z u n d) stop ∙ ap (λ z. Chunk g p b' z n d) s.1
    ∙ ap (λ z. Chunk g p b' v z d) e ∙ ap (λ z. Chunk g p b' v m z) sha

-- a page with zeros is readable
zeros_are_readable : (x : Extent) (p : ℕ) → p < bound_above x p → IsZero x p → x.byte p ≡ None → ⊥
zeros_are_readable x p hp z none = some_none 0 (sym (z p (omega arith) hp) ∙ none)
  where
    some_none : (a : ℕ) → Some a ≡ None → ⊥
    some_none a e = cc

-- the item with another start
abbrev put_at : ℕ → Item → Item
put_at p (Chunk f a b u n d) = Chunk f p b u n d
put_at p (Lost a b) = Lost p b
put_at p (Pad a b) = Pad p b
put_at p (Torn a b) = Torn p b
put_at p (Noise a b) = Noise p b

put_at_start : (i : Item) → put_at (start_of i) i ≡ i
put_at_start (Chunk f a b u n d) = refl
put_at_start (Lost a b) = refl
put_at_start (Pad a b) = refl
put_at_start (Torn a b) = refl
put_at_start (Noise a b) = refl

-- at most one item fits at a place, since the cases exclude one another
one_item_fits : (x : Extent) (p : ℕ) (i j : Item) → p < bound_above x p → Fits x (put_at p i) → Fits x (put_at p j) →
    put_at p i ≡ put_at p j
one_item_fits x p (Chunk f a b u n d) (Chunk g a' b' v m c) hp h k = same_chunk x p f b u n d g b' v m c h k
one_item_fits x p (Chunk f a b u n d) (Lost a' b') hp h k = absurd (k.1 f u h.0 h.1)
one_item_fits x p (Chunk f a b u n d) (Pad a' b') hp h k = absurd (k.1 f u h.0 h.1)
one_item_fits x p (Chunk f a b u n d) (Torn a' b') hp h k = absurd (k.1 f u h.0 h.1)
one_item_fits x p (Chunk f a b u n d) (Noise a' b') hp h k = absurd (k.1 f u h.0 h.1)
one_item_fits x p (Lost a b) (Chunk g a' b' v m c) hp h k = absurd (h.1 g v k.0 k.1)
one_item_fits x p (Lost a b) (Lost a' b') hp h k = ap (λ z. Lost p z) (h.0 ∙ sym k.0)
one_item_fits x p (Lost a b) (Pad a' b') hp h k = absurd (zeros_are_readable x p hp k.2 h.2)
one_item_fits x p (Lost a b) (Torn a' b') hp h k = absurd (k.2 h.2)
one_item_fits x p (Lost a b) (Noise a' b') hp h k = absurd (k.2 h.2)
one_item_fits x p (Pad a b) (Chunk g a' b' v m c) hp h k = absurd (h.1 g v k.0 k.1)
one_item_fits x p (Pad a b) (Lost a' b') hp h k = absurd (zeros_are_readable x p hp h.2 k.2)
one_item_fits x p (Pad a b) (Pad a' b') hp h k = ap (λ z. Pad p z) (h.0 ∙ sym k.0)
one_item_fits x p (Pad a b) (Torn a' b') hp h k = absurd (k.3 h.2)
one_item_fits x p (Pad a b) (Noise a' b') hp h k = absurd (k.3 h.2)
one_item_fits x p (Torn a b) (Chunk g a' b' v m c) hp h k = absurd (h.1 g v k.0 k.1)
one_item_fits x p (Torn a b) (Lost a' b') hp h k = absurd (h.2 k.2)
one_item_fits x p (Torn a b) (Pad a' b') hp h k = absurd (h.3 k.2)
one_item_fits x p (Torn a b) (Torn a' b') hp h k = ap (λ z. Torn p z) (h.0 ∙ sym k.0)
one_item_fits x p (Torn a b) (Noise a' b') hp h k = absurd (k.4 h.4)
one_item_fits x p (Noise a b) (Chunk g a' b' v m c) hp h k = absurd (h.1 g v k.0 k.1)
one_item_fits x p (Noise a b) (Lost a' b') hp h k = absurd (h.2 k.2)
one_item_fits x p (Noise a b) (Pad a' b') hp h k = absurd (h.3 k.2)
one_item_fits x p (Noise a b) (Torn a' b') hp h k = absurd (h.4 k.4)
one_item_fits x p (Noise a b) (Noise a' b') hp h k = ap (λ z. Noise p z) (h.0 ∙ sym k.0)

-- there is one item at a place
pub one_item : (x : Extent) (i j : Item) → 0 < x.page → IsItem x i → IsItem x j → start_of i ≡ start_of j → i ≡ j
one_item x i j pos h k e =
    let first : Fits x (put_at (start_of i) i) = subst (Fits x) (sym (put_at_start i)) h.fits in
    let second : Fits x (put_at (start_of j) j) = subst (Fits x) (sym (put_at_start j)) k.fits in
    let moved : Fits x (put_at (start_of i) j) = subst (λ (p : ℕ). Fits x (put_at p j)) (sym e) second in
    sym (put_at_start i) ∙ one_item_fits x (start_of i) i j (is_below_bound x (start_of i) pos h.below).0 first moved
    ∙ ap (λ p. put_at p j) e ∙ put_at_start j

-- two tilings of an extent are the same
pub one_tiling : (x : Extent) (is js : List Item) → 0 < x.page → IsTiling x is → IsTiling x js → is ≡ js
one_tiling x is js pos h k = go 0 is js h.joined k.joined h.each k.each
  where
    go : (a : ℕ) (is js : List Item) → Joins a x.pointer is → Joins a x.pointer js → All (IsItem x) is →
        All (IsItem x) js → is ≡ js
    go a [] [] h k hs ks = refl
    go a [] (j ∷ js) h k hs ks =
        let one : IsItem x j = All-head (IsItem x) j js ks in
        absurd (omega (arith, one.below, h, k.0))
    go a (i ∷ is) [] h k hs ks =
        let one : IsItem x i = All-head (IsItem x) i is hs in
        absurd (omega (arith, one.below, k, h.0))
    go a (i ∷ is) (j ∷ js) h k hs ks =
        let one : i ≡ j =
        one_item x i j pos (All-head (IsItem x) i is hs) (All-head (IsItem x) j js ks) (h.0 ∙ sym k.0) in
        let rest : is ≡ js =
        go (stop_of i) is js h.1 (rw (ap stop_of one) k.1) (All-tail (IsItem x) i is hs)
        (All-tail (IsItem x) j js ks) in
        ap (λ z. z ∷ is) one ∙ ap (λ zs. j ∷ zs) rest

-- ---- each byte is in one item

-- the items behind a place begin at or past it
begins_behind : (x : Extent) (a : ℕ) (items : List Item) → 0 < x.page → Joins a x.pointer items → All (IsItem x) items →
    (n : ℕ) (i : Item) → slice_get items n ≡ Some i → a ≤ start_of i
begins_behind x a [] pos joins each n i is = absurd (none-some i is)
begins_behind x a (first ∷ items) pos joins each zero i is = omega (arith, joins.0, ap start_of (same_Some first i is))
begins_behind x a (first ∷ items) pos joins each (suc n) i is =
    let up = advances x first pos (All-head (IsItem x) first items each) in
    omega (arith, up.0, joins.0, begins_behind x (stop_of first) items pos joins.1 (All-tail (IsItem x) first items each) n i is)

in_items : (x : Extent) (a : ℕ) (items : List Item) → 0 < x.page → Joins a x.pointer items → All (IsItem x) items →
    (place : ℕ) → a ≤ place → place < x.pointer → IsInOneItem items place
in_items x a [] pos joins each place low high = absurd (omega (arith, joins, low, high))
in_items x a (first ∷ items) pos joins each place low high =
    by (cases_lt place (stop_of first)) (in_items x (stop_of first) items pos joins.1 (All-tail (IsItem x) first items each) place)
  where
    by : (place < stop_of first) ⊎ (stop_of first ≤ place) →
        (stop_of first ≤ place → place < x.pointer → IsInOneItem items place) → IsInOneItem (first ∷ items) place
    by (inl here) behind = record {
      number = 0;
      item = first;
      is = refl;
      covers = (omega (arith, joins.0, low), here);
      alone = alone;
    }
      where
        alone : (other : ℕ) (i : Item) → slice_get (first ∷ items) other ≡ Some i → Covers place i → other ≡ 0
        alone zero i is covers = refl
        alone (suc n) i is covers =
            let past = begins_behind x (stop_of first) items pos joins.1 (All-tail (IsItem x) first items each) n i is in
            absurd (omega (arith, past, here, covers.0))
    by (inr past) behind = record {
      number = suc rest.number;
      item = rest.item;
      is = rest.is;
      covers = rest.covers;
      alone = alone;
    }
      where
        rest : IsInOneItem items place
        rest = behind past high

        alone : (other : ℕ) (i : Item) → slice_get (first ∷ items) other ≡ Some i → Covers place i → other ≡ suc rest.number
        alone zero i is covers = absurd (omega (arith, past, covers.1, ap stop_of (same_Some first i is)))
        alone (suc n) i is covers = ap suc (rest.alone n i is covers)

-- each place below the pointer is in one item
pub in_one_item : (x : Extent) (items : List Item) → 0 < x.page → IsTiling x items → (place : ℕ) → place < x.pointer →
    IsInOneItem items place
in_one_item x items pos tiled place below = in_items x 0 items pos tiled.joined tiled.each place (omega arith) below
