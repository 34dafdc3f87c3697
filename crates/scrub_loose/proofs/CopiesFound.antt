-- What is found of what is asked for has the copies of each named locator whose payload is gone.
use Rattle.std.proofs.Common.{◌≡◌, ◌==◌, ◌&&◌, ℕ, Bool, true, false, List, [], ◌∷◌, map, length, get_or, nat_lt, is_eq, if◌then◌else◌, arith, refl, sym, ◌∙◌, ap, subst}
use Rattle.std.specs.List.{Contains, filter, list_any}
use Rattle.std.specs.List.Sorted.{IsStrictlyIncreasing}
use Rattle.std.specs.Str.{bytes_eq}
use Rattle.std.proofs.lemmas.Bool.{eq-eqb, false≢true}
use Rattle.std.proofs.lemmas.List.Elements.{Contains-get_or}
use Rattle.std.proofs.lemmas.List.Folds.{list_any_at}
use Rattle.std.proofs.lemmas.List.Kept.{IsStrictlySortedBy-filter}
use Rattle.std.proofs.lemmas.List.Sorted.{Contains-permutation, IsPermutation-sym}
use Rattle.std.proofs.lemmas.Slice.Eq.{bytes_eq-Decides}
use Rattle.list_facts.proofs.Counts.{any_counts, count_none}
use Rattle.list_facts.proofs.Elements.{Contains-filter, Contains-from_filter, Contains-from_map, Contains-map}
use Rattle.list_facts.proofs.Filters.{filter_of_weaker}
use Rattle.list_facts.proofs.Orders.{is_eq-reverse}
use Rattle.scrub_disk.specs.Image.{Image}
use Rattle.scrub_frame.specs.declared.locator.Locator.{Locator}
use Rattle.scrub_super.specs.Plan.{PlanValue}
use Rattle.scrub_scan.specs.declared.standing.Standing.{Standing}
use Rattle.scrub_scan.specs.Scanned.{Scanned}
use Rattle.scrub_check.specs.declared.lists.spares.Content.{Content}
use Rattle.scrub_check.specs.declared.statuses.checked.Checked.{Checked}
use Rattle.scrub_check.specs.Spares.{AreSpares, HaveTheSameCopies, asks_for_spares, content_cmp, content_named, content_of, is_copy_of, is_wanted}
use Rattle.scrub_check.proofs.SpareCopies.{content_total, copy_there}
use Rattle.scrub_loose.specs.Copies.{is_gone_by}
use Rattle.scrub_loose.specs.Loose.{AreCopies, AreLoose, LooseValue, is_gone, loose_of, place_cmp}
use Rattle.scrub_loose.specs.steps.Asked.{AreAsked, IsSearchedFor}
use Rattle.scrub_loose.specs.steps.Search.{AreFoundIn, searched}
use Rattle.scrub_loose.proofs.AskedContents.{some_passes}
use Rattle.scrub_loose.proofs.LooseThere.{loose_there}
use Rattle.scrub_loose.proofs.OneLoose.{one_by_place, one_rising}
use Rattle.scrub_loose.proofs.SearchedExtents.{searched_all, searched_parts}

-- ---- contents

-- a frame has what a named locator asks for exactly if the contents are the same
copies_content : (c : Checked) (s : Standing) → is_eq (content_cmp (content_named c) (content_of s)) ≡ is_copy_of c.locator s
copies_content c s =
    ap is_eq (content_total.antisymm (content_named c) (content_of s)) ∙ is_eq-reverse (content_cmp (content_of s) (content_named c))
    ∙ sym (copy_there c.locator s)

-- what some locator asks for that s has
asking : Standing → Locator
asking s = record { extent = 0; offset = 0; length = s.length; uuid = []; digest = s.digest }

asking_is : (s : Standing) → is_copy_of (asking s) s ≡ true
unfolding asking
asking_is s = both (bytes_eq s.digest s.digest) (s.length == s.length) ((bytes_eq-Decides s.digest s.digest).1 refl) (eq-eqb s.length s.length refl)
  where
    both : (a b : Bool) → a ≡ true → b ≡ true → (a && b) ≡ true
    both true b e f = f
    both false b e f = absurd (false≢true e)

-- frames with the same copies are the same
same_contained : (found others : List Standing) (s : Standing) → HaveTheSameCopies found others → Contains others s → Contains found s
same_contained found others s same there =
    (Contains-from_filter (is_copy_of (asking s)) found s
    (subst (λ (fs : List Standing). Contains fs s) (same (asking s)) (Contains-filter (is_copy_of (asking s)) others s (asking_is s) there))).0

-- ---- what is asked for

module _ (all : List Scanned) (checked : List Checked) (spares : List Standing) (contents : List Content)
    (are : AreSpares all checked spares) (asked : AreAsked spares checked contents) where
  -- what the locators ask for whose payloads are gone
  abbrev named : List Content
  named = map content_named (filter (is_gone_by spares) checked)

  -- the payload is gone by the spares that were found, or it isn't
  gone_there : (c : Checked) → Contains checked c → is_gone_by spares c ≡ is_gone all c
  gone_there c there = ap (λ (ss : List Standing). asks_for_spares c && (length ss == 0)) (are c there)

  -- what a gone payload's locator asks for is asked for
  asked_if_gone : (c : Checked) → Contains checked c → is_gone_by spares c ≡ true → Contains contents (content_named c)
  asked_if_gone c there gone =
      Contains-permutation named contents (content_named c) asked
      (Contains-map content_named (filter (is_gone_by spares) checked) c (Contains-filter (is_gone_by spares) checked c gone there))

  -- and nothing else is
  gone_if_asked : (d : Content) → Contains contents d → (c : Checked) × Contains checked c × (is_gone_by spares c ≡ true) × (content_named c ≡ d)
  gone_if_asked d there =
      let m =
      Contains-from_map content_named (filter (is_gone_by spares) checked) d
      (Contains-permutation contents named d (IsPermutation-sym named contents asked) there) in
      let f = Contains-from_filter (is_gone_by spares) checked m.0 m.1 in
      (m.0, f.0, f.1, m.2)

  -- so its copies are wanted
  copy_wanted : (c : Checked) (s : Standing) → Contains checked c → is_gone_by spares c ≡ true → is_copy_of c.locator s ≡ true →
      is_wanted contents s ≡ true
  copy_wanted c s there gone copy =
      let among = asked_if_gone c there gone in
      sym (any_counts (λ other. is_eq (content_cmp other (content_of s))) contents)
      ∙ list_any_at (λ other. is_eq (content_cmp other (content_of s))) contents among.0 (content_named c) among.1
      (ap (λ (d : Content). is_eq (content_cmp d (content_of s))) among.2 ∙ copies_content c s ∙ copy)

  -- and what is wanted is a copy
  wanted_copy : (s : Standing) → is_wanted contents s ≡ true →
      (c : Checked) × Contains checked c × (is_gone_by spares c ≡ true) × (is_copy_of c.locator s ≡ true)
  wanted_copy s is =
      let d = some_passes (λ other. is_eq (content_cmp other (content_of s))) contents (content_of s)
      (any_counts (λ other. is_eq (content_cmp other (content_of s))) contents ∙ is) in
      let c = gone_if_asked d.0 d.1 in
      (c.0, c.1, c.2, sym (copies_content c.0 s) ∙ ap (λ (e : Content). is_eq (content_cmp e (content_of s))) c.3 ∙ d.2)

  -- nothing is gone if nothing is asked for
  none_gone : contents ≡ [] → (c : Checked) → Contains checked c → is_gone_by spares c ≡ false
  none_gone none c there = by (is_gone_by spares c) refl
    where
      by : (b : Bool) → is_gone_by spares c ≡ b → b ≡ false
      by false is = refl
      by true is =
          let among = asked_if_gone c there is in
          absurd (omega (arith, among.1, ap (λ (ds : List Content). length ds) none))

  -- then no payload is gone
  no_payload_gone : contents ≡ [] → list_any (is_gone all) checked ≡ false
  no_payload_gone none =
      any_counts (is_gone all) checked
      ∙ ap (nat_lt 0)
      (count_none (is_gone all) checked
      (λ k d below.
      let there = Contains-get_or checked k d below in
      sym (gone_there (get_or checked k d) there) ∙ none_gone none (get_or checked k d) there))

  -- else one is
  some_payload_gone : (d : Content) → Contains contents d → list_any (is_gone all) checked ≡ true
  some_payload_gone d there =
      let c = gone_if_asked d there in
      list_any_at (is_gone all) checked c.1.0 c.0 c.1.1 (ap (is_gone all) c.1.2 ∙ sym (gone_there c.0 c.1) ∙ c.2)

  -- ---- what is found

  module _ (resets : List ℕ) (image : Image) (plan : PlanValue) (found : LooseValue) (kept : List Standing) (v : LooseValue)
      (loose : AreLoose resets image plan v) (same : HaveTheSameCopies found.frames kept) where
    -- what is found are those of the loose frames that are wanted, and the crowded extents
    wanted_found : AreFoundIn (is_wanted contents) image (searched resets plan.planned) found →
        (found.frames ≡ filter (is_wanted contents) v.frames) × (found.crowded ≡ v.crowded)
    wanted_found h = (
      one_by_place found.frames (filter (is_wanted contents) v.frames) h.frames_rise
          (IsStrictlySortedBy-filter place_cmp (is_wanted contents) v.frames loose.frames_rise)
          (λ s there.
          let is = (h.frames s).0 there in
          let at = searched_parts resets plan.planned s.extent is.among in
          Contains-filter (is_wanted contents) v.frames s is.passes
          ((loose.frames s).1 (record { searched = record { in_use = at.0; stays = at.1 }; sparse = is.sparse; stands = is.stands })))
          (λ s there.
          let parts = Contains-from_filter (is_wanted contents) v.frames s there in
          let is = (loose.frames s).0 parts.0 in
          (h.frames s).1
          (record {
            among = searched_all resets plan.planned s.extent is.searched.in_use is.searched.stays;
            sparse = is.sparse;
            stands = is.stands;
            passes = parts.1;
          })),
      one_rising found.crowded v.crowded h.crowded_rise loose.crowded_rise
          (λ e there.
          let is = (h.crowded e).0 there in
          let at = searched_parts resets plan.planned e is.0 in
          (loose.crowded e).1 (record { in_use = at.0; stays = at.1 }, is.1))
          (λ e there.
          let is = (loose.crowded e).0 there in
          (h.crowded e).1 (searched_all resets plan.planned e is.0.in_use is.0.stays, is.1)),
    )

    -- the loose copies of a locator whose payload is gone, if what is found is wanted
    abbrev HasItsCopies : Checked → Type 0
    HasItsCopies c = filter (is_copy_of c.locator) kept ≡ filter (is_copy_of c.locator) v.frames

    its_copies : found.frames ≡ filter (is_wanted contents) v.frames → (c : Checked) → Contains checked c → is_gone_by spares c ≡ true →
        HasItsCopies c
    its_copies is c there gone =
        same c.locator ∙ ap (filter (is_copy_of c.locator)) is
        ∙ filter_of_weaker (is_copy_of c.locator) (is_wanted contents) v.frames (λ s copy. copy_wanted c s there gone copy)

    -- so all have theirs
    all_copies : ((c : Checked) → Contains checked c → is_gone_by spares c ≡ true → HasItsCopies c) → (c : Checked) → Contains checked c →
        (if is_gone_by spares c then filter (is_copy_of c.locator) kept else []) ≡ loose_of all v.frames c
    all_copies each c there = by (is_gone_by spares c) refl
      where
        by : (b : Bool) → is_gone_by spares c ≡ b →
            (if is_gone_by spares c then filter (is_copy_of c.locator) kept else []) ≡ (if is_gone all c then filter (is_copy_of c.locator) v.frames else [])
        by true is =
            ap (λ (t : Bool). if t then filter (is_copy_of c.locator) kept else []) is
            ∙ each c there is
            ∙ sym (ap (λ (t : Bool). if t then filter (is_copy_of c.locator) v.frames else []) (sym (gone_there c there) ∙ is))
        by false is =
            ap (λ (t : Bool). if t then filter (is_copy_of c.locator) kept else []) is
            ∙ sym (ap (λ (t : Bool). if t then filter (is_copy_of c.locator) v.frames else []) (sym (gone_there c there) ∙ is))

    -- a frame that is kept is a copy of one of them
    kept_copy : found.frames ≡ filter (is_wanted contents) v.frames → (s : Standing) → Contains kept s →
        (c : Checked) × Contains checked c × Contains (loose_of all v.frames c) s
    kept_copy is s there =
        let among =
        Contains-from_filter (is_wanted contents) v.frames s
        (subst (λ (fs : List Standing). Contains fs s) is (same_contained found.frames kept s same there)) in
        let c = wanted_copy s among.1 in (
          c.0,
          c.1,
          subst (λ (fs : List Standing). Contains fs s)
              (sym (ap (λ (t : Bool). if t then filter (is_copy_of c.0.locator) v.frames else []) (sym (gone_there c.0 c.1) ∙ c.2)))
              (Contains-filter (is_copy_of c.0.locator) v.frames s c.3 among.0),
        )

-- What is found of what is asked for are the copies.
pub copies_found : (resets : List ℕ) (image : Image) (plan : PlanValue) (all : List Scanned) (checked : List Checked)
    (spares : List Standing) (contents : List Content) (found : LooseValue) (kept : List Standing) →
    IsStrictlyIncreasing plan.planned → AreSpares all checked spares → AreAsked spares checked contents →
    IsSearchedFor contents image (searched resets plan.planned) found → HaveTheSameCopies found.frames kept →
    AreCopies resets image plan all checked (record { spares = spares; loose = kept; crowded = found.crowded })
copies_found resets image plan all checked spares [] found kept rising are asked is same =
    let v = loose_there resets image plan rising in
    let frames : found.frames ≡ [] = ap (λ (w : LooseValue). w.frames) is in
    record {
      spares = are;
      found = v.0;
      are = v.1;
      loose =
          all_copies all checked spares [] are asked resets image plan found kept v.0 v.1 same
          (λ c there gone. absurd (false≢true (sym (none_gone all checked spares [] are asked refl c there) ∙ gone)));
      asked = λ s there.
          let among = same_contained found.frames kept s same there in
          absurd (omega (arith, among.1, ap (λ (fs : List Standing). length fs) frames));
      crowded =
          ap (λ (w : LooseValue). w.crowded) is
          ∙ sym (ap (λ (t : Bool). if t then v.0.crowded else []) (no_payload_gone all checked spares [] are asked refl));
    }
copies_found resets image plan all checked spares (d ∷ ds) found kept rising are asked is same =
    let v = loose_there resets image plan rising in
    let whole = wanted_found all checked spares (d ∷ ds) are asked resets image plan found kept v.0 v.1 same is in
    record {
      spares = are;
      found = v.0;
      are = v.1;
      loose =
          all_copies all checked spares (d ∷ ds) are asked resets image plan found kept v.0 v.1 same
          (its_copies all checked spares (d ∷ ds) are asked resets image plan found kept v.0 v.1 same whole.0);
      asked = kept_copy all checked spares (d ∷ ds) are asked resets image plan found kept v.0 v.1 same whole.0;
      crowded =
          whole.1
          ∙ sym (ap (λ (t : Bool). if t then v.0.crowded else []) (some_payload_gone all checked spares (d ∷ ds) are asked d (0, omega arith, refl)));
    }
