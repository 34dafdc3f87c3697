-- What the code finds of an extent's room, by sorted numbers and by the last item.
use Rattle.std.proofs.Common.{◌≡◌, ◌≢◌, ◌⊎◌, ◌==◌, ◌&&◌, ◌||◌, ◌++◌, ◌-◌, ◌<◌, ◌≤◌, ◌+◌, ◌*◌, ◌/◌, ◌%◌, ℕ, zero, suc, Bool, true, false, cond, not, nat_lt, Option, Some, None, List, [], ◌∷◌, length, get_or, arith, refl, sym, ◌∙◌, ap, subst, append-nil, inl, inr, is_none, if◌then◌else◌}
use Rattle.std.proofs.Math.Path.{ap₂}
use Rattle.std.specs.Option.{option_map_or}
use Rattle.std.specs.List.{All, Contains, flat_map, list_all, list_any, slice_get}
use Rattle.std.specs.List.Sorted.{IsPermutation}
use Rattle.std.proofs.Math.Nat.{mod-lt, mul-mod_left}
use Rattle.std.proofs.lemmas.List.Sums.{AllPass-from_list_all}
use Rattle.std.proofs.lemmas.Bool.{and_parts, cases_lt, eq-eqb, eqb-true, false≢true, ltb-false}
use Rattle.std.proofs.lemmas.List.Sorted.{list_any-IsPermutation}
use Rattle.std.proofs.lemmas.Nat.{div-add-mod', div_below}
use Rattle.std.proofs.lemmas.Option.{none-some, same_Some}
use Rattle.scrub_disk.specs.declared.geometry.Geometry.{Geometry}
use Rattle.list_facts.proofs.Bools.{false_from_not, true_from_not}
use Rattle.list_facts.proofs.Filters.{Contains-filter_range}
use Rattle.scrub_disk.specs.Image.{HasWholePages, Image, image_byte, extent_bytes, unreadable_pages}
use Rattle.scrub_disk.proofs.HeldBytes.{byte-page}
use Rattle.scrub_super.proofs.PlanParts.{plan_parts}
use Rattle.scrub_scan.specs.declared.item.Item.{Item}
use Rattle.scrub_scan.specs.declared.findings.Findings.{Findings}
use Rattle.scrub_scan.specs.Findings.{IsFindings, is_nonzero, nonzero_places}
use Rattle.scrub_scan.specs.Scanned.{Scanned}
use Rattle.scrub_check.specs.declared.statuses.checked.Checked.{Checked}
use Rattle.scrub_check.specs.Candidates.{has_sound_alone}
use Rattle.scrub_check.specs.Checked.{is_sound}
use Rattle.scrub_check.specs.Live.{is_chunk}
use Rattle.scrub_check.proofs.Reclaimable.{named_by_sound_alone}
use Rattle.scrub_check.proofs.RunStates.{Sound_from_is_sound}
use Rattle.scrub_check.specs.steps.LocatorIndex.{AreBarredExtents}
use Rattle.scrub_loose.specs.Loose.{LooseValue}
use Rattle.scrub_found.specs.Scrubbed.{Scrubbed, IsScrubbed, is_clean_extent, is_clean_item}
use Rattle.scrub_reclaim.specs.Room.{IsRoom, ends_in_chunk, has_room, is_closed, is_listed_as, is_zero_to, may_grow, next_place, offers_room, place_in, room_fits, room_in, room_if, room_line, room_where, rooms_where}
use Rattle.scrub_reclaim.specs.steps.KeptCopies.{AreShut}
use Rattle.scrub_reclaim.specs.steps.Room.{may_grow_by, may_take_by, room_text}
use Rattle.scrub_reclaim.proofs.Reset.{plan_in}
use Rattle.scrub_reclaim.proofs.SameExtents.{in_disk}

-- ---- which extents

-- The test of an extent by barred numbers says just whether a chunk can be put into it.
pub grows_by : (checked : List Checked) (unsound : List ℕ) (f : Scanned) → AreBarredExtents checked unsound →
    may_grow_by unsound f ≡ may_grow checked f
grows_by checked unsound f are =
    ap (λ (s : Bool). is_clean_extent f && s) (sym (named_by_sound_alone checked unsound f.extent are))

-- The same with the numbers of closed extents.
takes_by : (all : List Scanned) (loose : LooseValue) (checked : List Checked) (barred shut : List ℕ) (f : Scanned) →
    AreShut all loose checked barred shut →
    may_take_by barred shut f ≡ (not (is_closed all loose checked f.extent) && may_grow checked f)
takes_by all loose checked barred shut f are =
    ap₂ (λ (a b : Bool). not a && b) (are.shut f.extent) (grows_by checked barred f are.unsound)

-- what isn't offered has no line
no_line_of : (a m r : Bool) (line old : List ℕ) → (a && m) ≡ false → old ≡ old ++ (if a && (m && r) then line else [])
no_line_of false m r line old none = sym (append-nil old)
no_line_of true false r line old none = sym (append-nil old)
no_line_of true true r line old none = absurd (false≢true (sym none))

line_of : (a m r : Bool) (line : List ℕ) → (a && m) ≡ true → (if r then line else []) ≡ (if a && (m && r) then line else [])
line_of false m r line some = absurd (false≢true some)
line_of true false r line some = absurd (false≢true some)
line_of true true r line some = refl

module _ (is_listed : Bool) (g : Geometry) (all : List Scanned) (loose : LooseValue) (checked : List Checked) where
  -- An extent into which nothing may be put has no line.
  pub closed : (barred shut : List ℕ) (f : Scanned) (old : List ℕ) (r : Bool) → AreShut all loose checked barred shut →
      r ≡ may_take_by barred shut f → r ≡ false → old ≡ old ++ room_if is_listed g all loose checked f
  closed barred shut f old r are is none =
      no_line_of (not (is_closed all loose checked f.extent)) (may_grow checked f) (room_fits g f) (room_line is_listed f.extent (place_in g f) (room_in g f)) old
      (sym (takes_by all loose checked barred shut f are) ∙ sym is ∙ none)

  -- Any other has its own, if it has room.
  pub open_line : (barred shut : List ℕ) (f : Scanned) (r : Bool) → AreShut all loose checked barred shut →
      r ≡ may_take_by barred shut f → r ≡ true → room_text is_listed g f ≡ room_if is_listed g all loose checked f
  open_line barred shut f r are is free =
      line_of (not (is_closed all loose checked f.extent)) (may_grow checked f) (room_fits g f) (room_line is_listed f.extent (place_in g f) (room_in g f))
      (sym (takes_by all loose checked barred shut f are) ∙ sym is ∙ free)

  -- An extent that isn't listed as wanted has no line.
  pub passed_over : (listed : List ℕ) (f : Scanned) (r : Bool) (old : List ℕ) →
      r ≡ is_listed_as is_listed listed f.extent → r ≡ false → old ≡ old ++ room_where is_listed g all loose checked listed f
  passed_over listed f r old is other =
      sym (append-nil old) ∙ ap (λ (t : Bool). old ++ (if t then room_if is_listed g all loose checked f else [])) (sym other ∙ is)

  -- Any other may have one.
  pub taken_in : (listed : List ℕ) (f : Scanned) (r : Bool) → r ≡ is_listed_as is_listed listed f.extent → r ≡ true →
      room_if is_listed g all loose checked f ≡ room_where is_listed g all loose checked listed f
  taken_in listed f r is wanted = ap (λ (t : Bool). if t then room_if is_listed g all loose checked f else []) (sym wanted ∙ is)

  -- The order of the listed numbers doesn't matter.
  pub in_any_order : (numbers sorted : List ℕ) → IsPermutation numbers sorted →
      rooms_where is_listed g all loose checked sorted ≡ rooms_where is_listed g all loose checked numbers
  in_any_order numbers sorted same =
      let among : (e : ℕ) → list_any (λ n. n == e) sorted ≡ list_any (λ n. n == e) numbers =
      λ e. sym (list_any-IsPermutation (λ n. n == e) numbers sorted same) in
      let as_wanted : (b : Bool) (e : ℕ) → is_listed_as b sorted e ≡ is_listed_as b numbers e = wanted among in
      λ i. flat_map (λ f. if as_wanted is_listed f.extent i then room_if is_listed g all loose checked f else []) all
    where
      wanted : ((e : ℕ) → list_any (λ n. n == e) sorted ≡ list_any (λ n. n == e) numbers) → (b : Bool) (e : ℕ) →
          is_listed_as b sorted e ≡ is_listed_as b numbers e
      wanted among true e = among e
      wanted among false e = ap not (among e)

-- ---- the last item

-- Items end in a chunk exactly if their last item is a chunk.
pub last_chunk : (items : List Item) (item : Item) → slice_get items (length items - 1) ≡ Some item →
    ends_in_chunk items ≡ is_chunk item
last_chunk [] item is = absurd (none-some item is)
last_chunk (i ∷ []) item is = ap is_chunk (same_Some i item is)
last_chunk (i ∷ j ∷ js) item is =
    last_chunk (j ∷ js) item
    (ap (slice_get (j ∷ js)) (let e : suc (length js) - 1 ≡ length js = omega arith in e)
    ∙ ap (slice_get (i ∷ j ∷ js)) (let e : suc (length js) ≡ suc (suc (length js)) - 1 = omega arith in e)
    ∙ is)

-- Without a last item they don't end in a chunk.
pub no_last : (items : List Item) → slice_get items (length items - 1) ≡ None → ends_in_chunk items ≡ false
no_last [] is = refl
no_last (i ∷ []) is = absurd (none-some i (sym is))
no_last (i ∷ j ∷ js) is =
    no_last (j ∷ js)
    (ap (slice_get (j ∷ js)) (let e : suc (length js) - 1 ≡ length js = omega arith in e)
    ∙ ap (slice_get (i ∷ j ∷ js)) (let e : suc (length js) ≡ suc (suc (length js)) - 1 = omega arith in e)
    ∙ is)

-- ---- the place of a line

-- where a byte isn't zero, the first such byte is at or in front of it
first_least : (at : ℕ → Option ℕ) (a n p : ℕ) → a ≤ p → p < a + n → is_nonzero (at p) ≡ true →
    (q : ℕ) × (slice_get (nonzero_places at a n) 0 ≡ Some q) × (q ≤ p)
first_least at a zero p low high is = absurd (omega (arith, low, high))
first_least at a (suc n) p low high is = by (is_nonzero (at a)) refl (λ l. first_least at (a + 1) n p l (omega (arith, high)) is)
  where
    later : is_nonzero (at a) ≡ false → a + 1 ≤ p
    later none = elim (cases_lt a p) [
      | inl less ↦ omega (arith, less)
      | inr le ↦ absurd (false≢true (sym none ∙ ap (λ i. is_nonzero (at i)) (let e : a ≡ p = omega (arith, low, le) in e) ∙ is))
    ]

    by : (b : Bool) → is_nonzero (at a) ≡ b →
        (a + 1 ≤ p → (q : ℕ) × (slice_get (nonzero_places at (a + 1) n) 0 ≡ Some q) × (q ≤ p)) →
        (q : ℕ) × (slice_get (nonzero_places at a (suc n)) 0 ≡ Some q) × (q ≤ p)
    by true some more = (
      a,
      ap (λ (t : Bool). slice_get (cond t (a ∷ nonzero_places at (a + 1) n) (nonzero_places at (a + 1) n)) 0) some,
      low,
    )
    by false none more =
        let rest = more (later none) in (
          rest.0,
          ap (λ (t : Bool). slice_get (cond t (a ∷ nonzero_places at (a + 1) n) (nonzero_places at (a + 1) n)) 0) none ∙ rest.1,
          rest.2,
        )

-- so there is none in front of a place that the first isn't in front of
zeros_to : (at : ℕ → Option ℕ) (w n place : ℕ) (first : Option ℕ) → first ≡ slice_get (nonzero_places at w n) 0 →
    option_map_or (λ q. not (nat_lt q place)) first true ≡ true → place ≤ w + n → (p : ℕ) → w ≤ p → p < place →
    is_nonzero (at p) ≡ false
zeros_to at w n place first is free within p low below = by (is_nonzero (at p)) refl
  where
    by : (b : Bool) → is_nonzero (at p) ≡ b → b ≡ false
    by false none = refl
    by true some =
        let least = first_least at w n p low (omega (arith, below, within)) some in
        let there : option_map_or (λ q. not (nat_lt q place)) (Some least.0) true ≡ true =
        subst (λ (o : Option ℕ). option_map_or (λ q. not (nat_lt q place)) o true ≡ true) (is ∙ least.1) free in
        absurd (omega (arith, ltb-false least.0 place (false_from_not (nat_lt least.0 place) there), least.2, below))

-- at a page bound and directly after a chunk it is the pointer
is_pointer : (page w : ℕ) (items : List Item) → (w % page ≡ 0) ⊎ (ends_in_chunk items ≡ true) → next_place page w items ≡ w
is_pointer page w items (inl bound) =
    ap (λ (t : Bool). if t || ends_in_chunk items then w else (w / page + 1) * page) (eq-eqb (w % page) 0 bound)
is_pointer page w items (inr chunk) = by (w % page == 0) (ends_in_chunk items) chunk
  where
    by : (t b : Bool) → b ≡ true → (if t || b then w else (w / page + 1) * page) ≡ w
    by true b is = refl
    by false true is = refl
    by false false is = absurd (false≢true is)

-- or else it is the next page bound
is_bound : (page w : ℕ) (items : List Item) → 0 < page → w % page ≢ 0 → ends_in_chunk items ≡ false →
    (w < next_place page w items) × (next_place page w items < w + page) × (next_place page w items % page ≡ 0)
is_bound page w items pos off none = by (w % page == 0) (ends_in_chunk items) refl none
  where
    by : (t b : Bool) → (w % page == 0) ≡ t → b ≡ false →
        (w < (if t || b then w else (w / page + 1) * page)) × ((if t || b then w else (w / page + 1) * page) < w + page)
        × ((if t || b then w else (w / page + 1) * page) % page ≡ 0)
    by true b at none = absurd (off (eqb-true (w % page) 0 at))
    by false true at none = absurd (false≢true (sym none))
    by false false at none =
        let split : (w / page + 1) * page ≡ w / page * page + page = omega arith in (
          omega (arith, split, div-add-mod' w page, mod-lt w pos),
          omega (arith, split, div-add-mod' w page, mod-lt w pos, off),
          mul-mod_left (w / page + 1) page,
        )

-- ---- what can be read

-- in an extent without an unreadable page each byte can be read
all_readable : (image : Image) (e w : ℕ) (found : Findings) → HasWholePages image → e < image.geometry.extents → IsFindings image e w found →
    length found.bad_pages ≡ 0 → (p : ℕ) → p < extent_bytes image.geometry → image_byte image e p ≢ None
all_readable image e w found whole inside is none p here = by (image.page e q) refl
  where
    size : ℕ
    size = image.geometry.page

    positive : 0 < size
    positive = omega (arith, image.geometry.page_least)

    q : ℕ
    q = p / size

    below : q < image.geometry.pages
    below = div_below p size image.geometry.pages positive (omega (arith, here))

    by : (o : Option (List ℕ)) → image.page e q ≡ o → image_byte image e p ≢ None
    by None lost =
        let there : Contains (unreadable_pages image e) q =
        Contains-filter_range (λ n. is_none (image.page e n)) 0 image.geometry.pages q (omega arith) (omega (arith, below)) (ap (λ (o : Option (List ℕ)). is_none o) lost) in
        let long : length (unreadable_pages image e) ≡ 0 = ap (λ (ns : List ℕ). length ns) (sym is.bad_pages) ∙ none in
        absurd (omega (arith, there.1, long))
    by (Some bytes) read =
        let at : image_byte image e (q * size + p % size) ≡ Some (get_or bytes (p % size) 0) =
        byte-page image e q (p % size) bytes read (whole e q bytes inside below read) below (mod-lt p positive) in
        λ lost. none-some (get_or bytes (p % size) 0) (sym lost ∙ ap (image_byte image e) (let split : p ≡ q * size + p % size = omega (arith, div-add-mod' p size) in split) ∙ at)

-- a byte that can be read is zero if it isn't another number
zero_there : (o : Option ℕ) → is_nonzero o ≡ false → o ≢ None → o ≡ Some 0
zero_there None none readable = absurd (readable refl)
zero_there (Some b) none readable = ap Some (eqb-true b 0 (true_from_not (b == 0) none))

-- What holds of a scanned extent with room holds in the image.
pub shows_room : (image : Image) (found : Scrubbed) → HasWholePages image → IsScrubbed image found →
    All (λ f. has_room found.plan.geometry found.checked f ≡ true →
    IsRoom image found.checked f.extent f.pointer (place_in found.plan.geometry f)) found.all
shows_room image found whole x i d below roomy = record {
  readable = readable;
  items = f.findings.items;
  tiled = is.tiled;
  clean = clean.1;
  sound = λ j e inside number.
      let c : Checked = get_or found.checked j e in
      Sound_from_is_sound c.status (by (c.locator.extent == f.extent) (is_sound c.status) (eq-eqb c.locator.extent f.extent number) (alone j e inside));
  at_pointer = λ pointed. at ∙ is_pointer image.geometry.page f.pointer f.findings.items pointed;
  at_bound = λ off none.
      subst
      (λ (p : ℕ). (f.pointer < p) × (p < f.pointer + image.geometry.page) × (p % image.geometry.page ≡ 0))
      (sym at)
      (is_bound image.geometry.page f.pointer f.findings.items (omega (arith, image.geometry.page_least)) off none);
  zeros = λ p low high.
      zero_there (image_byte image f.extent p)
      (zeros_to (image_byte image f.extent) f.pointer (extent_bytes image.geometry - f.pointer) (place_in g f) f.findings.tail_first is.tail_least fits.0 (omega (arith, enough, size)) p low high)
      (readable p (omega (arith, high, enough, size)));
  fits = omega (arith, enough, size);
}
  where
    f : Scanned
    f = get_or found.all i d

    g : Geometry
    g = found.plan.geometry

    is : IsFindings image f.extent f.pointer f.findings
    is = x.all.findings i d below

    sizes : g ≡ image.geometry
    sizes = (plan_parts found.choice found.plan x.plan).geometry ∙ x.choice.geometry

    size : extent_bytes g ≡ extent_bytes image.geometry
    size = ap extent_bytes sizes

    at : place_in g f ≡ next_place image.geometry.page f.pointer f.findings.items
    at = ap (λ (h : Geometry). place_in h f) sizes

    parts : (may_grow found.checked f ≡ true) × (room_fits g f ≡ true)
    parts = and_parts (may_grow found.checked f) (room_fits g f) roomy

    grows : (is_clean_extent f ≡ true) × (has_sound_alone found.checked f ≡ true)
    grows = and_parts (is_clean_extent f) (has_sound_alone found.checked f) parts.0

    clean : ((length f.findings.bad_pages == 0) ≡ true) × (list_all is_clean_item f.findings.items ≡ true)
    clean = and_parts (length f.findings.bad_pages == 0) (list_all is_clean_item f.findings.items) grows.0

    fits : (is_zero_to (place_in g f) f ≡ true) × (not (nat_lt (room_in g f) 38) ≡ true)
    fits = and_parts (is_zero_to (place_in g f) f) (not (nat_lt (room_in g f) 38)) parts.1

    enough : 38 ≤ room_in g f
    enough = ltb-false (room_in g f) 38 (false_from_not (nat_lt (room_in g f) 38) fits.1)

    readable : (p : ℕ) → p < extent_bytes image.geometry → image_byte image f.extent p ≢ None
    readable =
        all_readable image f.extent f.pointer f.findings whole (in_disk image found.plan (plan_in image found x) f.extent f.pointer (x.all.pointers i d below)).1 is
        (eqb-true (length f.findings.bad_pages) 0 clean.0)

    alone : All (λ (c : Checked). (not (c.locator.extent == f.extent) || is_sound c.status) ≡ true) found.checked
    alone = AllPass-from_list_all (λ (c : Checked). not (c.locator.extent == f.extent) || is_sound c.status) found.checked grows.1

    by : (a b : Bool) → a ≡ true → (not a || b) ≡ true → b ≡ true
    by true b e all = all
    by false b e all = absurd (false≢true e)

-- ---- what a line shows

module _ (is_listed : Bool) (g : Geometry) (all : List Scanned) (loose : LooseValue) (checked : List Checked) (f : Scanned)
    (some : room_if is_listed g all loose checked f ≢ []) where
  -- an extent with a line has room that is offered
  has_line : offers_room g all loose checked f ≡ true
  has_line = by (offers_room g all loose checked f) some
    where
      by : (b : Bool) → (if b then room_line is_listed f.extent (place_in g f) (room_in g f) else []) ≢ [] → b ≡ true
      by true there = refl
      by false there = absurd (there refl)

  -- and it has room
  line_roomy : has_room g checked f ≡ true
  line_roomy = (and_parts (not (is_closed all loose checked f.extent)) (has_room g checked f) has_line).1

-- An extent with a line has room in the image.
pub line_shows_room : (image : Image) (found : Scrubbed) (loose : LooseValue) (is_listed : Bool) → HasWholePages image → IsScrubbed image found →
    All (λ f. room_if is_listed found.plan.geometry found.all loose found.checked f ≢ [] →
    IsRoom image found.checked f.extent f.pointer (place_in found.plan.geometry f)) found.all
line_shows_room image found loose is_listed whole x i d below some =
    shows_room image found whole x i d below
    (line_roomy is_listed found.plan.geometry found.all loose found.checked (get_or found.all i d) some)
