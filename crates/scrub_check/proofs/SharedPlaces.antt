-- Places that several sound locators point to, found among the sorted ones.
use Rattle.std.proofs.Common.{◌≡◌, ◌<◌, ◌≤◌, Bool, List, [], map, nat_lt, arith, refl, sym, ◌∙◌, Ordering}
use Rattle.std.specs.Cmp.{IsTotalOrder, nat_cmp_total}
use Rattle.std.specs.Ordering.{nat_cmp, ordering_then}
use Rattle.std.specs.List.{All, Contains, count_by}
use Rattle.std.specs.List.Sorted.{IsStrictlySortedBy}
use Rattle.std.proofs.lemmas.Bool.{lt-ltb, ltb-true}
use Rattle.std.proofs.lemmas.Cmp.{then_total, on_total}
use Rattle.std.proofs.lemmas.List.Elements.{All-contains, All-filter, All-map, filter_passes}
use Rattle.std.proofs.lemmas.List.Folds.{Any-from_list_any}
use Rattle.std.proofs.lemmas.List.Kept.{IsStrictlySortedBy-filter}
use Rattle.std.proofs.lemmas.Map.Views.{tells_apart}
use Rattle.list_facts.proofs.Counts.{any_counts}
use Rattle.list_facts.proofs.Elements.{Contains-filter, Contains-map}
use Rattle.list_facts.proofs.Sorted.{IsStrictlySortedBy-map, once_at_most}
use Rattle.scrub_check.specs.declared.lists.place.SharedPlace.{SharedPlace}
use Rattle.scrub_check.specs.declared.statuses.checked.Checked.{Checked}
use Rattle.scrub_check.specs.declared.places.chunk_at.ChunkAt.{ChunkAt}
use Rattle.scrub_check.specs.steps.Distinct.{AreDistinct}
use Rattle.scrub_check.specs.Live.{sound_at}
use Rattle.scrub_check.specs.Shared.{AreShared}
use Rattle.scrub_check.specs.steps.Places.{chunk_at_cmp, is_place}
use Rattle.scrub_check.specs.steps.SoundPlaces.{AreSoundPlaces, place_counted, shared_by}
use Rattle.scrub_check.proofs.SortedPlaces.{place_total, place_exact}

-- two or more sound locators point to the place, and so many as it says
abbrev IsShared : List Checked → SharedPlace → Type 0
IsShared checked s = (s.count ≡ sound_at checked s.extent s.offset) × (2 ≤ s.count)

-- the order of places: by extent, and then by byte
abbrev pub by_place : SharedPlace → SharedPlace → Ordering
by_place a b = ordering_then (nat_cmp a.extent b.extent) (nat_cmp a.offset b.offset)

-- it is a total order
pub by_place_total : IsTotalOrder by_place
by_place_total = then_total (on_total (λ p. p.extent) nat_cmp_total) (on_total (λ p. p.offset) nat_cmp_total)

-- a place that is counted is there
counted_there : (starts : List ChunkAt) (s : ChunkAt) → 0 < count_by (is_place s) starts → Contains starts s
counted_there starts s some =
    let found =
    Any-from_list_any (is_place s) starts (any_counts (is_place s) starts ∙ lt-ltb 0 (count_by (is_place s) starts) some) in
    rw (← (tells_apart place_exact found.1 s found.4)) (found.0, found.2, found.3)

-- the places that are there twice or more are the shared ones
pub shared_found : (checked : List Checked) (starts once : List ChunkAt) (places : List SharedPlace) →
    AreSoundPlaces checked starts → AreDistinct chunk_at_cmp starts once →
    places ≡ shared_by starts once → AreShared checked places
shared_found checked starts once places are distinct is = rw is (record {
  rising =
      IsStrictlySortedBy-filter by_place several (map (place_counted starts) once)
      (IsStrictlySortedBy-map chunk_at_cmp by_place (place_counted starts) once (λ s t. refl) distinct.rising);
  exact = λ s. (
    λ among. All-contains (IsShared checked) (shared_by starts once) s each among,
    λ shared.
        Contains-filter several (map (place_counted starts) once) s (lt-ltb 1 s.count (omega (arith, shared.1)))
        (there s shared),
  );
})
  where
    several : SharedPlace → Bool
    several p = nat_lt 1 p.count

    counted : All (λ (p : SharedPlace). p.count ≡ sound_at checked p.extent p.offset) (map (place_counted starts) once)
    counted =
        All-map (λ (p : SharedPlace). p.count ≡ sound_at checked p.extent p.offset) (place_counted starts) once
        (λ k d lt. are _)

    each : All (IsShared checked) (shared_by starts once)
    each k d lt = (
      All-filter several (λ (p : SharedPlace). p.count ≡ sound_at checked p.extent p.offset) (map (place_counted starts) once)
          counted k d lt,
      ltb-true 1 _ (filter_passes several (map (place_counted starts) once) k d lt),
    )

    there : (s : SharedPlace) → IsShared checked s → Contains (map (place_counted starts) once) s
    there s shared =
        let start : ChunkAt = record { extent = s.extent; offset = s.offset } in
        let so_often : count_by (is_place start) starts ≡ s.count = are start ∙ sym shared.0 in
        let among : Contains once start =
        (distinct.same start).1 (counted_there starts start (omega (arith, so_often, shared.1))) in
        let itself : place_counted starts start ≡ s = λ i. record {
          extent = s.extent;
          offset = s.offset;
          count = so_often i;
        } in
        rw itself at (Contains-map (place_counted starts) once start among)

no_places : IsStrictlySortedBy by_place []
unfolding IsStrictlySortedBy
no_places = tt

-- if each place is there once, none is shared
pub none_shared : (checked : List Checked) (starts : List ChunkAt) → AreSoundPlaces checked starts →
    IsStrictlySortedBy chunk_at_cmp starts → AreShared checked []
none_shared checked starts are rising = record {
  rising = no_places;
  exact = λ s. (λ among. absurd (omega (arith, among.1)), λ shared. absurd (unshared s shared));
}
  where
    unshared : (s : SharedPlace) → IsShared checked s → ⊥
    unshared s shared =
        let start : ChunkAt = record { extent = s.extent; offset = s.offset } in
        let so_often : count_by (is_place start) starts ≡ s.count = are start ∙ sym shared.0 in
        let few : count_by (is_place start) starts ≤ 1 = once_at_most place_total starts start rising in
        omega (arith, so_often, few, shared.1)
