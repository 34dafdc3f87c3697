-- Places of locators, found one byte after the other. Throughout, x is an extent, n and p are places, l and m are locators, and vs
-- are listed runs.
use Rattle.std.proofs.Common.{◌≡◌, ◌<◌, ◌+◌, ◌/◌, ◌%◌, ℕ, zero, suc, Bool, cond, List, [], ◌∷◌, ◌++◌, Less, Equal, Greater, Ordering, Result, Ok, Err, is_eq, is_lt, IfSome, IfNone, length, get_or, set, take, drop, map, nat_cmp, arith, refl, sym, ◌∙◌, ap, subst, inl, inr, Option, Some, None, option_and_then, slice_get}
use Rattle.std.specs.Cmp.{IsTotalOrder, nat_cmp_total}
use Rattle.std.specs.Ordering.{ordering_reverse, ordering_then}
use Rattle.std.specs.Result.{result_ok}
use Rattle.std.specs.List.{All, Contains, HoldsAt}
use Rattle.std.specs.List.Sorted.{IsBinarySearchResult, IsPartitionPoint, IsSearchInRange, IsSortedBy, IsStrictlySortedBy}
use Rattle.std.proofs.Math.Seq.{map-set_same}
use Rattle.std.proofs.lemmas.Bool.{and_parts, cases_eq, cases_lt, eqb-true, le-ltb}
use Rattle.std.proofs.lemmas.Cmp.{on_total, then_total}
use Rattle.std.proofs.lemmas.List.{get_or-map, get_or-set_other, get_or-set_same, length-map, length-set, same_lists}
use Rattle.std.proofs.lemmas.Option.{none-some}
use Rattle.std.proofs.lemmas.List.Elements.{All-cons, Contains-append_left, Contains-get_or, Contains-push, Contains-push_cases}
use Rattle.std.proofs.lemmas.List.Sorted.{searchable_from_sorted}
use Rattle.std.proofs.lemmas.Map.Keys.{Less-from_sorted}
use Rattle.list_facts.proofs.Elements.{Contains-map}
use Rattle.list_facts.proofs.Orders.{is_eq-nat_cmp, is_eq-ordering_then}
use Rattle.list_facts.proofs.Rising.{IsStrictlyIncreasing-push}
use Rattle.scrub_disk.specs.Image.{AreBytesAt, Image, extent_bytes, image_byte}
use Rattle.scrub_frame.specs.declared.locator.Locator.{Locator}
use Rattle.scrub_frame.specs.Locator.{IsLocator, locator_bytes}
use Rattle.scrub_frame.proofs.Locators.{length-locator_bytes, one_locator_lem}
use Rattle.scrub_super.proofs.BytesHere.{decided_bytes_at}
use Rattle.scrub_scan.specs.Extent.{Extent}
use Rattle.scrub_scan.proofs.FrameBytes.{same_bytes}
use Rattle.scrub_loose.specs.Anywhere.{whole_extent}
use Rattle.scrub_loose.specs.declared.outer.FoundRun.{FoundRun}
use Rattle.scrub_loose.specs.Listed.{AreListedRuns, AreLocatorPlaces, ListedValue}
use Rattle.scrub_loose.specs.Outer.{AreFoundRuns, locator_of, run_cmp}
use Rattle.scrub_loose.specs.steps.Held.{extent_by}
use Rattle.scrub_loose.specs.steps.Naming.{AreSortedRuns, AreListedBefore, ArePlacesBefore, locator_in}
use Rattle.scrub_loose.proofs.BytesInMemory.{byte_some, bytes_held}
use Rattle.scrub_loose.proofs.FoundFrames.{same_cmp}
use Rattle.scrub_loose.proofs.OneLoose.{one_rising}
use Rattle.scrub_loose.proofs.RunsFound.{one_found}
use Rattle.scrub_loose.proofs.RunsThere.{locator_of_run, some_found}

-- ---- of one locator

module _ (x : Extent) (l : Locator) where
  -- none at no byte
  pub places_none : ArePlacesBefore x 0 l []
  places_none = record {
    rise = λ k low. absurd (omega (arith, low));
    each = λ p. (λ there. absurd (omega (arith, there.1)), λ h. absurd (omega (arith, h.0)));
  }

  -- one more
  pub places_more : (n : ℕ) (ps : List ℕ) → ArePlacesBefore x n l ps → AreBytesAt x.byte n (locator_bytes l) →
      ArePlacesBefore x (n + 1) l (ps ++ n ∷ [])
  places_more n ps h here = record {
    rise =
        IsStrictlyIncreasing-push ps n h.rise
        (λ k d low. ((h.each (get_or ps k d)).0 (Contains-get_or ps k d low)).0);
    each = λ p. (
      λ there. elim (Contains-push_cases ps n p there) [
        | inl among ↦ let is = (h.each p).0 among in (omega (arith, is.0), is.1)
        | inr same ↦ (omega (arith, same), subst (λ q. AreBytesAt x.byte q (locator_bytes l)) same here)
      ],
      λ is. elim (cases_lt p n) [
        | inl before ↦ Contains-append_left ps (n ∷ []) p ((h.each p).1 (before, is.1))
        | inr at ↦ subst (Contains (ps ++ n ∷ [])) (let same : n ≡ p = omega (arith, at, is.0) in same) (Contains-push ps n)
      ],
    );
  }

  -- none here
  pub places_same : (n : ℕ) (ps : List ℕ) → ArePlacesBefore x n l ps → ¬ AreBytesAt x.byte n (locator_bytes l) →
      ArePlacesBefore x (n + 1) l ps
  places_same n ps h none = record {
    rise = h.rise;
    each = λ p. (
      λ there. let is = (h.each p).0 there in (omega (arith, is.0), is.1),
      λ is. elim (cases_lt p n) [
        | inl before ↦ (h.each p).1 (before, is.1)
        | inr at ↦
            absurd
            (none (subst (λ q. AreBytesAt x.byte q (locator_bytes l)) (let same : p ≡ n = omega (arith, at, is.0) in same) is.1))
      ],
    );
  }

-- ---- of listed runs

same_order : (q r : FoundRun) → q.frame.extent ≡ r.frame.extent → q.frame.offset ≡ r.frame.offset → run_cmp q r ≡ Equal
same_order q r extent offset =
    ap (λ (o : Ordering). ordering_then o (nat_cmp q.frame.offset r.frame.offset)) (same_cmp q.frame.extent r.frame.extent extent)
    ∙ same_cmp q.frame.offset r.frame.offset offset

-- runs at one place are one
pub one_index : (vs : List ListedValue) (i k : ℕ) (d : ListedValue) → AreSortedRuns vs → i < length vs → k < length vs →
    (get_or vs i d).run.frame.extent ≡ (get_or vs k d).run.frame.extent →
    (get_or vs i d).run.frame.offset ≡ (get_or vs k d).run.frame.offset → i ≡ k
one_index vs i k d h below within extent offset = elim (cases_lt i k) [
  | inl first ↦ absurd (apart i k first within extent offset)
  | inr later ↦ elim (cases_lt k i) [
    | inl first ↦ absurd (apart k i first below (sym extent) (sym offset))
    | inr equal ↦ omega (arith, later, equal)
  ]
]
  where
    apart : (a b : ℕ) → a < b → b < length vs → (get_or vs a d).run.frame.extent ≡ (get_or vs b d).run.frame.extent →
        (get_or vs a d).run.frame.offset ≡ (get_or vs b d).run.frame.offset → ⊥
    apart a b lt low extent offset =
        let less : run_cmp (get_or (map (λ (v : ListedValue). v.run) vs) a d.run) (get_or (map (λ (v : ListedValue). v.run) vs) b d.run) ≡ Less =
        Less-from_sorted run_cmp (map (λ (v : ListedValue). v.run) vs) a b d.run h.rise lt (omega (arith, low, length-map vs (λ (v : ListedValue). v.run))) in
        let same : run_cmp (get_or vs a d).run (get_or vs b d).run ≡ Less =
        rw (get_or-map (λ (v : ListedValue). v.run) vs a d d.run (omega (arith, lt, low)), get_or-map (λ (v : ListedValue). v.run) vs b d d.run low) at less in
        let e : Less ≡ Equal = sym same ∙ same_order (get_or vs a d).run (get_or vs b d).run extent offset in cc

-- the bytes of two locators at a place are of one
one_locator_at : (x : Extent) (n : ℕ) (l m : Locator) → IsLocator l → IsLocator m → AreBytesAt x.byte n (locator_bytes l) →
    AreBytesAt x.byte n (locator_bytes m) → l ≡ m
one_locator_at x n l m hl hm here there =
    one_locator_lem l m hl hm
    (same_bytes x.byte n (locator_bytes l) (locator_bytes m) (length-locator_bytes l hl ∙ sym (length-locator_bytes m hm)) here there)

-- a place of one run is of no other
pub one_named : (x : Extent) (n : ℕ) (vs : List ListedValue) (i k : ℕ) (d : ListedValue) → AreSortedRuns vs → i < length vs →
    k < length vs → AreBytesAt x.byte n (locator_bytes (locator_in (get_or vs i d))) →
    AreBytesAt x.byte n (locator_bytes (locator_in (get_or vs k d))) → i ≡ k
one_named x n vs i k d h below within here there =
    let same =
    one_locator_at x n (locator_in (get_or vs i d)) (locator_in (get_or vs k d)) (h.locators i d below) (h.locators k d within) here there in
    one_index vs i k d h below within (ap (λ (l : Locator). l.extent) same) (ap (λ (l : Locator). l.offset) same)

-- one run is named at a place
pub listed_more : (x : Extent) (n : ℕ) (vs : List ListedValue) (i : ℕ) (w : ListedValue) → AreSortedRuns vs → i < length vs →
    w.run ≡ (get_or vs i w).run → w.places ≡ (get_or vs i w).places ++ n ∷ [] →
    ((d : ListedValue) → AreBytesAt x.byte n (locator_bytes (locator_in (get_or vs i d)))) → AreListedBefore x n vs →
    AreListedBefore x (n + 1) (set vs i w)
listed_more x n vs i w order below run places here h k d low = elim (cases_eq k i) [
  | inl same ↦
      subst (λ (v : ListedValue). ArePlacesBefore x (n + 1) (locator_in v) v.places) (sym (at_i same)) w_has
  | inr other ↦
      subst (λ (v : ListedValue). ArePlacesBefore x (n + 1) (locator_in v) v.places) (sym (get_or-set_other vs i k w d other))
      (places_same x (locator_in (get_or vs k d)) n (get_or vs k d).places (h k d within)
      (λ there. other (sym (one_named x n vs i k d order below within (here d) there))))
]
  where
    within : k < length vs
    within = omega (arith, low, length-set vs i w)

    at_i : k ≡ i → get_or (set vs i w) k d ≡ w
    at_i same = ap (λ j. get_or (set vs i w) j d) same ∙ get_or-set_same vs i w d below

    w_has : ArePlacesBefore x (n + 1) (locator_in w) w.places
    w_has =
        subst (λ (r : FoundRun). ArePlacesBefore x (n + 1) (locator_of r.frame) w.places) (sym run)
        (subst (ArePlacesBefore x (n + 1) (locator_in (get_or vs i w))) (sym places)
        (places_more x (locator_in (get_or vs i w)) n (get_or vs i w).places (h i w below) (here w)))

-- its run stays
pub runs_same : (vs : List ListedValue) (i : ℕ) (w : ListedValue) → w.run ≡ (get_or vs i w).run →
    map (λ (v : ListedValue). v.run) (set vs i w) ≡ map (λ (v : ListedValue). v.run) vs
runs_same vs i w run = map-set_same (λ (v : ListedValue). v.run) vs i w w run

-- none is
pub listed_same : (x : Extent) (n : ℕ) (vs : List ListedValue) →
    All (λ v. ¬ AreBytesAt x.byte n (locator_bytes (locator_in v))) vs → AreListedBefore x n vs → AreListedBefore x (n + 1) vs
listed_same x n vs none h k d low =
    places_same x (locator_in (get_or vs k d)) n (get_or vs k d).places (h k d low) (none k d low)

-- at first no place is known
pub listed_none : (x : Extent) (vs : List ListedValue) → All (λ v. v.places ≡ []) vs → AreListedBefore x 0 vs
listed_none x vs none k d low =
    subst (ArePlacesBefore x 0 (locator_in (get_or vs k d))) (sym (none k d low)) (places_none x (locator_in (get_or vs k d)))

-- lists of the same runs are both in order
pub order_same : (vs ws : List ListedValue) → map (λ (v : ListedValue). v.run) ws ≡ map (λ (v : ListedValue). v.run) vs → AreSortedRuns vs →
    AreSortedRuns ws
order_same vs ws same h = record {
  rise = subst (IsStrictlySortedBy run_cmp) (sym same) h.rise;
  locators = λ k d low.
      let within : k < length vs = omega (arith, low, ap (λ (rs : List FoundRun). length rs) same, length-map vs (λ (v : ListedValue). v.run), length-map ws (λ (v : ListedValue). v.run)) in
      let is : (get_or ws k d).run ≡ (get_or vs k d).run =
      sym (get_or-map (λ (v : ListedValue). v.run) ws k d d.run low) ∙ ap (λ (rs : List FoundRun). get_or rs k d.run) same
      ∙ get_or-map (λ (v : ListedValue). v.run) vs k d d.run within in
      subst (λ (r : FoundRun). IsLocator (locator_of r.frame)) (sym is) (h.locators k d within);
}

-- found runs are in order
pub order_found : (image : Image) (vs : List ListedValue) → AreFoundRuns image (map (λ (v : ListedValue). v.run) vs) → AreSortedRuns vs
order_found image vs h = record {
  rise = h.rise;
  locators = λ k d low.
      let there : Contains (map (λ (v : ListedValue). v.run) vs) (get_or vs k d).run =
      Contains-map (λ (v : ListedValue). v.run) vs (get_or vs k d) (Contains-get_or vs k d low) in
      let is = (h.each (get_or vs k d).run).0 there in
      locator_of_run image (get_or vs k d).run.frame (get_or vs k d).run.entries is.run;
}

-- ---- where a locator points

abbrev place_of : ListedValue → ℕ × ℕ
place_of v = (v.run.frame.extent, v.run.frame.offset)

abbrev pair_cmp : ℕ × ℕ → ℕ × ℕ → Ordering
pair_cmp a b = ordering_then (nat_cmp a.0 b.0) (nat_cmp a.1 b.1)

pair_total : IsTotalOrder pair_cmp
pair_total = then_total (on_total (λ (a : ℕ × ℕ). a.0) nat_cmp_total) (on_total (λ (a : ℕ × ℕ). a.1) nat_cmp_total)

equal_parts : (a b : ℕ × ℕ) → pair_cmp a b ≡ Equal → (a.0 ≡ b.0) × (a.1 ≡ b.1)
equal_parts a b is =
    let parts =
    and_parts (is_eq (nat_cmp a.0 b.0)) (is_eq (nat_cmp a.1 b.1))
    (sym (is_eq-ordering_then (nat_cmp a.0 b.0) (nat_cmp a.1 b.1)) ∙ ap is_eq is) in (
      eqb-true a.0 b.0 (sym (is_eq-nat_cmp a.0 b.0) ∙ parts.0),
      eqb-true a.1 b.1 (sym (is_eq-nat_cmp a.1 b.1) ∙ parts.1),
    )

same_pair : (a b : ℕ × ℕ) → a.0 ≡ b.0 → a.1 ≡ b.1 → pair_cmp a b ≡ Equal
same_pair a b first second =
    ap (λ (o : Ordering). ordering_then o (nat_cmp a.1 b.1)) (same_cmp a.0 b.0 first) ∙ same_cmp a.1 b.1 second

-- what a search for the place of a locator says
pub record IsSearched (vs : List ListedValue) (l : Locator) (o : Option ℕ) : Type 0 where
  pub found : IfSome o (λ i. i < length vs)
  pub there : IfSome o (HoldsAt (λ v. (v.run.frame.extent ≡ l.extent) × (v.run.frame.offset ≡ l.offset)) vs)
  pub none : IfNone o (All (λ v. ¬ ((v.run.frame.extent ≡ l.extent) × (v.run.frame.offset ≡ l.offset))) vs)

pub searched_place : (vs : List ListedValue) (l : Locator) (r : Result ℕ ℕ) → AreSortedRuns vs → IsSearchInRange r (length vs) →
    IsBinarySearchResult (λ v. pair_cmp (place_of v) (l.extent, l.offset)) vs r → IsSearched vs l (result_ok r)
searched_place vs l (Ok i) h within equal = record {
  found = within;
  there = λ d. equal_parts (place_of (get_or vs i d)) (l.extent, l.offset) (equal d);
  none = tt;
}
searched_place vs l (Err i) h within parted = record {
  found = tt;
  there = tt;
  none = λ k d low same.
      let is : pair_cmp (place_of (get_or vs k d)) (l.extent, l.offset) ≡ Equal =
      same_pair (place_of (get_or vs k d)) (l.extent, l.offset) same.0 same.1 in
      elim (cases_lt k i) [
        | inl before ↦ let e : Less ≡ Equal = sym (at.0 k d (omega arith) before) ∙ is in cc
        | inr from ↦ let e : Greater ≡ Equal = sym (at.1 k d from low) ∙ is in cc
      ];
}
  where
    sorted : IsSortedBy (λ a b. is_lt (pair_cmp (place_of a) (place_of b))) vs
    sorted k d low below =
        let less : run_cmp (get_or (map (λ (v : ListedValue). v.run) vs) k d.run) (get_or (map (λ (v : ListedValue). v.run) vs) (k + 1) d.run) ≡ Less =
        Less-from_sorted run_cmp (map (λ (v : ListedValue). v.run) vs) k (k + 1) d.run h.rise (omega arith)
        (omega (arith, below, length-map vs (λ (v : ListedValue). v.run))) in
        let here : pair_cmp (place_of (get_or vs k d)) (place_of (get_or vs (k + 1) d)) ≡ Less =
        rw (get_or-map (λ (v : ListedValue). v.run) vs k d d.run (omega (arith, below)), get_or-map (λ (v : ListedValue). v.run) vs (k + 1) d d.run below) at less in
        ap is_lt
        (pair_total.antisymm (place_of (get_or vs (k + 1) d)) (place_of (get_or vs k d)) ∙ ap ordering_reverse here)

    at : IsPartitionPoint (λ v. pair_cmp (place_of v) (l.extent, l.offset) ≡ Less) (λ v. pair_cmp (place_of v) (l.extent, l.offset) ≡ Greater) vs i
    at = parted (searchable_from_sorted pair_total place_of vs (l.extent, l.offset) sorted)

-- ---- in memory

module _ (P : ℕ) (bytes : List ℕ) (readable : List Bool) where
  abbrev x : Extent
  x = extent_by P bytes readable

  -- a locator that is at a place is the one that is read there
  pub locator_read : (p : ℕ) (l m : Locator) → IsLocator l → IsLocator m → AreBytesAt x.byte p (locator_bytes l) →
      locator_bytes m ≡ take 60 (drop p bytes) → m ≡ l
  locator_read p l m hl hm h is =
      one_locator_lem m l hm hl
      (is ∙ ap (λ n. take n (drop p bytes)) (sym (length-locator_bytes l hl)) ∙ bytes_held P bytes readable p (locator_bytes l) h)

  -- and its bytes are those that are read there
  pub bytes_read : (p : ℕ) (l : Locator) → IsLocator l → AreBytesAt x.byte p (locator_bytes l) → take 60 (drop p bytes) ≡ locator_bytes l
  bytes_read p l hl h =
      ap (λ n. take n (drop p bytes)) (sym (length-locator_bytes l hl)) ∙ bytes_held P bytes readable p (locator_bytes l) h

  -- so the run that begins where it points has these bytes
  pub named_by : (p : ℕ) (vs : List ListedValue) (i k : ℕ) (d : ListedValue) (m : Locator) → AreSortedRuns vs → i < length vs → k < length vs →
      IsLocator m → locator_bytes m ≡ take 60 (drop p bytes) →
      ((get_or vs i d).run.frame.extent ≡ m.extent) × ((get_or vs i d).run.frame.offset ≡ m.offset) →
      AreBytesAt x.byte p (locator_bytes (locator_in (get_or vs k d))) →
      locator_bytes (locator_in (get_or vs i d)) ≡ take 60 (drop p bytes)
  named_by p vs i k d m order below within hm is there here =
      let l = locator_in (get_or vs k d) in
      let hl = order.locators k d within in
      let read : m ≡ locator_in (get_or vs k d) = locator_read p l m hl hm here is in
      let same : i ≡ k =
      one_index vs i k d order below within (there.0 ∙ ap (λ (a : Locator). a.extent) read) (there.1 ∙ ap (λ (a : Locator). a.offset) read) in
      ap (λ j. locator_bytes (locator_in (get_or vs j d))) same ∙ sym (bytes_read p l hl here)

  -- there is none behind the extent's end
  pub no_locator_past : (p : ℕ) (l : Locator) → IsLocator l → length bytes < p + 60 → ¬ AreBytesAt x.byte p (locator_bytes l)
  no_locator_past p l hl past h =
      omega (arith, past, (byte_some P bytes readable (p + 59) (get_or (locator_bytes l) 59 0) (h 59 (omega (arith, length-locator_bytes l hl)))).0)

-- ---- in extent 0

-- byte p of the image, if it is in extent 0
abbrev in_image : Image → ℕ → Option ℕ
in_image image p = option_and_then (λ s. slice_get s (p % image.geometry.page)) (image.page 0 (p / image.geometry.page))

-- the places in all of an extent are those of the image
pub places_of_image : (image : Image) (l : Locator) (ps : List ℕ) → IsLocator l →
    ArePlacesBefore (whole_extent image 0) (extent_bytes image.geometry) l ps → AreLocatorPlaces image l ps
places_of_image image l ps hl h = record {
  rise = h.rise;
  each = λ p. (
    λ there. ((h.each p).0 there).1,
    λ is. (h.each p).1 (within p (h_first p is), is),
  );
}
  where
    h_first : (p : ℕ) → AreBytesAt (image_byte image 0) p (locator_bytes l) → image_byte image 0 (p + 0) ≡ Some (get_or (locator_bytes l) 0 0)
    h_first p is = is 0 (omega (arith, length-locator_bytes l hl))

    within : (p : ℕ) → image_byte image 0 (p + 0) ≡ Some (get_or (locator_bytes l) 0 0) → p < extent_bytes image.geometry
    within p is = elim (cases_lt p (extent_bytes image.geometry)) [
      | inl low ↦ low
      | inr high ↦
          absurd
          (none-some (get_or (locator_bytes l) 0 0)
          (sym (ap (λ t. cond t (in_image image (p + 0)) None) (le-ltb (p + 0) (extent_bytes image.geometry) (omega (arith, high)))) ∙ is))
    ]

-- so found runs with the places in it are listed
pub listed_all : (image : Image) (vs ws : List ListedValue) → AreFoundRuns image (map (λ (v : ListedValue). v.run) vs) →
    map (λ (v : ListedValue). v.run) ws ≡ map (λ (v : ListedValue). v.run) vs →
    AreListedBefore (whole_extent image 0) (extent_bytes image.geometry) ws → AreListedRuns image ws
listed_all image vs ws found same listed =
    let here : AreFoundRuns image (map (λ (v : ListedValue). v.run) ws) = subst (AreFoundRuns image) (sym same) found in
    record {
      found = here;
      places = λ k d low.
          places_of_image image (locator_in (get_or ws k d)) (get_or ws k d).places ((order_found image ws here).locators k d low) (listed k d low);
    }

-- ---- there is one list, and there is one

one_listed_place : (image : Image) (l : Locator) (ps qs : List ℕ) → AreLocatorPlaces image l ps → AreLocatorPlaces image l qs → ps ≡ qs
one_listed_place image l ps qs h k =
    one_rising ps qs h.rise k.rise (λ p there. (k.each p).1 ((h.each p).0 there)) (λ p there. (h.each p).1 ((k.each p).0 there))

pub one_listed : (image : Image) (vs ws : List ListedValue) → AreListedRuns image vs → AreListedRuns image ws → vs ≡ ws
one_listed image vs ws h k =
    let runs = one_found image (map (λ (v : ListedValue). v.run) vs) (map (λ (v : ListedValue). v.run) ws) h.found k.found in
    let size : length vs ≡ length ws =
    sym (length-map vs (λ (v : ListedValue). v.run)) ∙ ap (λ (rs : List FoundRun). length rs) runs ∙ length-map ws (λ (v : ListedValue). v.run) in
    same_lists vs ws size (λ i d low.
    let within : i < length ws = omega (arith, low, size) in
    let run : (get_or vs i d).run ≡ (get_or ws i d).run =
    sym (get_or-map (λ (v : ListedValue). v.run) vs i d d.run low) ∙ ap (λ (rs : List FoundRun). get_or rs i d.run) runs
    ∙ get_or-map (λ (v : ListedValue). v.run) ws i d d.run within in
    let places : (get_or vs i d).places ≡ (get_or ws i d).places =
    one_listed_place image (locator_in (get_or vs i d)) (get_or vs i d).places (get_or ws i d).places (h.places i d low)
    (subst (λ (r : FoundRun). AreLocatorPlaces image (locator_of r.frame) (get_or ws i d).places) (sym run) (k.places i d within)) in
    λ j. record { run = run j; places = places j })

-- each locator has its places
some_places : (image : Image) (l : Locator) → IsLocator l → (ps : List ℕ) × AreLocatorPlaces image l ps
some_places image l hl =
    let all = before (extent_bytes image.geometry) in (all.0, places_of_image image l all.0 hl all.1)
  where
    before : (n : ℕ) → (ps : List ℕ) × ArePlacesBefore (whole_extent image 0) n l ps
    before zero = ([], places_none (whole_extent image 0) l)
    before (suc n) =
        let ps = before n in
        let up : n + 1 ≡ suc n = omega arith in
        elim (decided_bytes_at (image_byte image 0) n (locator_bytes l)) [
          | inl here ↦
              (ps.0 ++ n ∷ [], subst (λ m. ArePlacesBefore (whole_extent image 0) m l (ps.0 ++ n ∷ [])) up (places_more (whole_extent image 0) l n ps.0 ps.1 here))
          | inr none ↦ (ps.0, subst (λ m. ArePlacesBefore (whole_extent image 0) m l ps.0) up (places_same (whole_extent image 0) l n ps.0 ps.1 none))
        ]

some_listed_of : (image : Image) (rs : List FoundRun) → All (λ r. IsLocator (locator_of r.frame)) rs →
    (vs : List ListedValue) × (map (λ (v : ListedValue). v.run) vs ≡ rs)
    × All (λ v. AreLocatorPlaces image (locator_of v.run.frame) v.places) vs
some_listed_of image [] all = ([], refl, λ k d low. absurd (omega (arith, low)))
some_listed_of image (r ∷ rs) all =
    let rest = some_listed_of image rs (λ k d low. all (suc k) d (omega (arith, low))) in
    let first = some_places image (locator_of r.frame) (all 0 r (omega arith)) in
    let v : ListedValue = record { run = r; places = first.0 } in (
      v ∷ rest.0,
      ap (λ (qs : List FoundRun). r ∷ qs) rest.1,
      All-cons (λ (w : ListedValue). AreLocatorPlaces image (locator_of w.run.frame) w.places) v rest.0 first.1 rest.2,
    )

pub some_listed : (image : Image) → (vs : List ListedValue) × AreListedRuns image vs
some_listed image =
    let found = some_found image in
    let listed =
    some_listed_of image found.0
    (λ k d low.
    let r : FoundRun = get_or found.0 k d in
    locator_of_run image r.frame r.entries ((found.1.each r).0 (Contains-get_or found.0 k d low)).run) in
    (listed.0, record { found = subst (AreFoundRuns image) (sym listed.1) found.1; places = listed.2 })
