-- Searches and counts among sorted places, and what they say of the sound locators.
use Rattle.std.proofs.Common.{◌≡◌, ◌+◌, ◌&&◌, ◌==◌, ℕ, Bool, true, false, not, cond, List, [], ◌∷◌, length, map, arith, refl, sym, ◌∙◌, ap, inl, inr, nat_lt, Result, Ok, Err, is_ok, nat_cmp, is_eq}
use Rattle.std.proofs.Math.Path.{ap₂}
use Rattle.std.specs.Ordering.{eq_by_cmp}
use Rattle.std.specs.Cmp.{IsTotalOrder, nat_cmp_total}
use Rattle.std.specs.List.{filter, count_by}
use Rattle.std.specs.List.Sorted.{IsPermutation, IsSorted, IsSearchInRange, IsBinarySearchResult}
use Rattle.std.proofs.lemmas.Cmp.{then_total, on_total}
use Rattle.std.proofs.lemmas.Bool.{and_parts, cases_lt}
use Rattle.std.proofs.lemmas.Map.Lookups.{CmpEqualImpliesEq, exact_unsigned}
use Rattle.std.proofs.lemmas.Map.Views.{tells_apart}
use Rattle.std.proofs.lemmas.List.Sums.{sum_by-cons}
use Rattle.std.proofs.lemmas.List.Sorted.{sum_by-IsPermutation}
use Rattle.list_facts.proofs.Counts.{any_at, any_counts, count_between, count_out}
use Rattle.list_facts.proofs.Orders.{is_eq-nat_cmp, is_eq-ordering_then}
use Rattle.list_facts.proofs.Sorted.{rises_against}
use Rattle.scrub_check.specs.declared.lists.place.Place.{Place}
use Rattle.scrub_check.specs.declared.statuses.checked.Checked.{Checked}
use Rattle.scrub_check.specs.declared.places.chunk_at.ChunkAt.{ChunkAt}
use Rattle.scrub_check.specs.Checked.{is_sound}
use Rattle.scrub_scan.specs.declared.item.Item.{Item}
use Rattle.scrub_scan.specs.Item.{start_of}
use Rattle.scrub_check.specs.Live.{sound_at, has_sound_at, is_chunk}
use Rattle.scrub_check.specs.steps.Places.{chunk_at_cmp, is_place}
use Rattle.scrub_check.specs.steps.SoundPlaces.{is_sound_at, is_live, place_of_checked, sound_places, AreSoundPlaces, is_live_by, is_named_by}

-- places are in a total order
pub place_total : IsTotalOrder chunk_at_cmp
place_total = then_total (on_total (λ s. s.extent) nat_cmp_total) (on_total (λ s. s.offset) nat_cmp_total)

-- two places that the order makes equal are one
pub place_exact : CmpEqualImpliesEq chunk_at_cmp
place_exact a b e = λ i. record { extent = extent i; offset = offset i }
  where
    parts : (is_eq (nat_cmp a.extent b.extent) ≡ true) × (is_eq (nat_cmp a.offset b.offset) ≡ true)
    parts = and_parts _ _ (sym (is_eq-ordering_then (nat_cmp a.extent b.extent) (nat_cmp a.offset b.offset)) ∙ ap is_eq e)

    extent : a.extent ≡ b.extent
    extent = tells_apart exact_unsigned a.extent b.extent parts.0

    offset : a.offset ≡ b.offset
    offset = tells_apart exact_unsigned a.offset b.offset parts.1

-- places are equal exactly if the order makes them equal
pub place_ties : (a b : ChunkAt) → ((a.extent == b.extent) && (a.offset == b.offset)) ≡ eq_by_cmp chunk_at_cmp a b
place_ties a b =
    sym
    (is_eq-ordering_then (nat_cmp a.extent b.extent) (nat_cmp a.offset b.offset) ∙ ap₂ (λ x y. x && y) (is_eq-nat_cmp a.extent b.extent) (is_eq-nat_cmp a.offset b.offset))

named_there : (e p : ℕ) (c : Checked) →
    is_place (record { extent = e; offset = p }) (place_of_checked c) ≡ ((c.locator.extent == e) && (c.locator.offset == p))
named_there e p c =
    is_eq-ordering_then (nat_cmp c.locator.extent e) (nat_cmp c.locator.offset p)
    ∙ ap₂ (λ a b. a && b) (is_eq-nat_cmp c.locator.extent e) (is_eq-nat_cmp c.locator.offset p)

-- the sound ones
abbrev pub sound_ones : List Checked → List Checked
sound_ones checked = filter (λ c. is_sound c.status) checked

one_named : (c : Checked) (cs : List Checked) (e p : ℕ) (b : Bool) → is_sound c.status ≡ b →
    count_by (is_place (record { extent = e; offset = p })) (map place_of_checked (sound_ones cs)) ≡ sound_at cs e p →
    count_by (is_place (record { extent = e; offset = p })) (map place_of_checked (sound_ones (c ∷ cs))) ≡ sound_at (c ∷ cs) e p
one_named c cs e p true sound rest =
    let there : ChunkAt → Bool = is_place (record { extent = e; offset = p }) in
    ap (λ b. count_by there (map place_of_checked (cond b (c ∷ sound_ones cs) (sound_ones cs)))) sound
    ∙ sum_by-cons (λ t. cond (there t) 1 0) (place_of_checked c) (map place_of_checked (sound_ones cs))
    ∙ ap₂ (λ b n. cond b 1 0 + n) (named_there e p c) rest
    ∙ sym
    (sum_by-cons (λ c. cond (is_sound_at e p c) 1 0) c cs ∙ ap (λ b. cond (b && (c.locator.extent == e) && (c.locator.offset == p)) 1 0 + sound_at cs e p) sound)
one_named c cs e p false other rest =
    let there : ChunkAt → Bool = is_place (record { extent = e; offset = p }) in
    ap (λ b. count_by there (map place_of_checked (cond b (c ∷ sound_ones cs) (sound_ones cs)))) other
    ∙ rest
    ∙ sym (count_out (is_sound_at e p) c cs (ap (λ b. b && (c.locator.extent == e) && (c.locator.offset == p)) other))

-- how many sound locators point to a place is how often it is among their places
pub count_named : (checked : List Checked) (e p : ℕ) →
    count_by (is_place (record { extent = e; offset = p })) (map place_of_checked (sound_ones checked)) ≡ sound_at checked e p
count_named [] e p = refl
count_named (c ∷ cs) e p = one_named c cs e p (is_sound c.status) refl (count_named cs e p)

-- so it is in any order of them
pub sound_in_order : (checked : List Checked) (starts : List ChunkAt) → IsPermutation (sound_places checked) starts →
    AreSoundPlaces checked starts
sound_in_order checked starts same s =
    sum_by-IsPermutation (λ t. cond (is_place s t) 1 0) (sound_places checked) starts same
    ∙ count_named checked s.extent s.offset

-- a search finds a place exactly if it is there
pub found_counts : (starts : List ChunkAt) (s : ChunkAt) (r : Result ℕ ℕ) → IsSorted chunk_at_cmp starts →
    IsSearchInRange r (length starts) → IsBinarySearchResult (λ t. chunk_at_cmp t s) starts r →
    is_ok r ≡ nat_lt 0 (count_by (is_place s) starts)
found_counts starts s (Ok i) sorted inside found =
    sym (sym (any_counts (is_place s) starts) ∙ any_at (is_place s) starts i inside (λ d. ap is_eq (found d)))
found_counts starts s (Err i) sorted inside found =
    let point = found (rises_against place_total starts s sorted) in
    sym
    (ap (λ n. nat_lt 0 n) (count_between (is_place s) starts 0 0 (omega arith) (omega arith) (λ k d lt. absurd (omega (arith, lt))) (λ k d from lt. absurd (omega (arith, lt)))
    (λ k d from lt. elim (cases_lt k i) [
      | inl less ↦ ap is_eq (point.0 k d (omega arith) less)
      | inr more ↦ ap is_eq (point.1 k d more lt)
    ])))

-- so it does if a sound locator points there
pub found_sound : (checked : List Checked) (starts : List ChunkAt) (e p : ℕ) (found : Bool) → AreSoundPlaces checked starts →
    found ≡ nat_lt 0 (count_by (is_place (record { extent = e; offset = p })) starts) → found ≡ has_sound_at checked e p
found_sound checked starts e p found are is =
    is ∙ ap (λ n. nat_lt 0 n) (are (record { extent = e; offset = p }))

-- a live chunk is found by its start
pub live_found : (checked : List Checked) (starts : List ChunkAt) (e : ℕ) (item : Item) → AreSoundPlaces checked starts →
    is_live_by starts e item ≡ is_live checked e item
live_found checked starts e item are = ap (λ b. is_chunk item && b) (found_sound checked starts e (start_of item) _ are refl)

-- so are all live chunks of an extent
pub live_sizes : (checked : List Checked) (starts : List ChunkAt) (e : ℕ) (items : List Item) → AreSoundPlaces checked starts →
    filter (is_live_by starts e) items ≡ filter (is_live checked e) items
live_sizes checked starts e [] are = refl
live_sizes checked starts e (i ∷ is) are =
    ap₂ (λ b xs. cond b (i ∷ xs) xs) (live_found checked starts e i are) (live_sizes checked starts e is are)

-- chunks that aren't found are those to which no sound locator points
pub orphans_found : (checked : List Checked) (starts : List ChunkAt) (ps : List Place) → AreSoundPlaces checked starts →
    filter (λ p. not (is_named_by starts p)) ps ≡ filter (λ p. not (has_sound_at checked p.extent p.offset)) ps
orphans_found checked starts [] are = refl
orphans_found checked starts (p ∷ ps) are =
    ap₂ (λ b xs. cond (not b) (p ∷ xs) xs) (found_sound checked starts p.extent p.offset _ are refl)
    (orphans_found checked starts ps are)
