-- Copies into room lose nothing: each chunk is still one, the same is named with the same statuses, and what was copied is found.
use Rattle.std.proofs.Common.{◌≡◌, ◌≢◌, ◌⊎◌, ◌<◌, ◌≤◌, ◌==◌, ◌||◌, ℕ, Bool, true, false, not, Option, Some, None, List, [], ◌∷◌, length, get_or, arith, refl, sym, ◌∙◌, ap, subst, inl, inr}
use Rattle.std.proofs.Math.Path.{fun_ext}
use Rattle.std.specs.List.{All, AllZip, Contains, find, list_any}
use Rattle.std.specs.Option.{option_and_then}
use Rattle.std.proofs.lemmas.Bool.{and_parts, eq-eqb, eqb-true, false≢true}
use Rattle.std.proofs.lemmas.Option.{same_Some}
use Rattle.std.proofs.lemmas.List.Elements.{All-contains, All-contains_itself}
use Rattle.list_facts.proofs.Elements.{Contains-behind, Contains-cases, Contains-from_map, Contains-map}
use Rattle.list_facts.proofs.Bools.{false_from_not}
use Rattle.scrub_disk.specs.declared.geometry.Geometry.{Geometry}
use Rattle.scrub_disk.specs.Image.{Image, image_byte}
use Rattle.scrub_frame.specs.declared.locator.Locator.{Locator}
use Rattle.scrub_super.specs.Plan.{PlanValue, pointer_of}
use Rattle.scrub_super.proofs.PlanParts.{plan_parts}
use Rattle.scrub_super.proofs.PlansFit.{plan_fits}
use Rattle.scrub_scan.specs.declared.item.Item.{Item}
use Rattle.scrub_scan.specs.declared.standing.Standing.{Standing}
use Rattle.scrub_scan.specs.AllFindings.{entry_of, extent_numbers}
use Rattle.scrub_scan.specs.Extent.{extent_of}
use Rattle.scrub_scan.specs.Item.{start_of}
use Rattle.scrub_scan.specs.Scanned.{Scanned}
use Rattle.scrub_scan.specs.Tiling.{IsTiling}
use Rattle.scrub_check.specs.declared.statuses.checked.Checked.{Checked}
use Rattle.scrub_check.specs.declared.statuses.status.Status.{Status}
use Rattle.scrub_check.specs.declared.statuses.status.Status.TheVariants.{Sound}
use Rattle.scrub_check.specs.ChunkForms.{form_at, form_of}
use Rattle.scrub_check.specs.Live.{is_chunk}
use Rattle.scrub_check.specs.Spares.{spares_of}
use Rattle.scrub_check.specs.Status.{HasStatusIn}
use Rattle.scrub_loose.specs.Loose.{AreLoose, IsSearched, LooseValue, best_of, loose_of}
use Rattle.scrub_loose.proofs.LooseThere.{some_loose}
use Rattle.scrub_loose.proofs.OneLoose.{one_loose}
use Rattle.scrub_found.specs.Scrubbed.{Scrubbed, IsScrubbed}
use Rattle.scrub_found.proofs.OneReader.{one_scanned}
use Rattle.scrub_found.proofs.OneScrub.{one_scrub}
use Rattle.scrub_listings.specs.Manifest.{IsManifest, manifest_text}
use Rattle.scrub_reclaim.specs.Copy.{HasRoomAt, HoldsCopies, IsAfterCopies, IsPlanAfterCopies, IsSameButRisen, RoomValue, extents_of, rank}
use Rattle.scrub_reclaim.specs.Doubts.{crowded_now}
use Rattle.scrub_reclaim.specs.Reset.{NameTheSame}
use Rattle.scrub_reclaim.specs.Room.{IsRoom, has_room, holds_loose, is_closed, next_place, offers_room, place_in}
use Rattle.scrub_reclaim.proofs.BestCopies.{as_good, first_of, loose_among, not_nil}
use Rattle.scrub_reclaim.proofs.CarriedNames.{Carries, named_alike}
use Rattle.scrub_reclaim.proofs.CopiedExtents.{IsFilled, filled_carries, filled_room, form_there, sound_chunk, sound_under}
use Rattle.scrub_reclaim.proofs.NextPlaces.{chunk_of, frames_are_chunks}
use Rattle.scrub_reclaim.proofs.Reset.{plan_found, plan_in, same_verdict}
use Rattle.scrub_reclaim.proofs.SameExtents.{AreAlike, HaveTheSameForms, IsScannedBy, IsTheSame, alike_items, carries, in_disk, planned_there, same_numbers, same_planned, scanned_by}
use Rattle.scrub_reclaim.proofs.ResetForms.{along}
use Rattle.scrub_reclaim.proofs.RoomLines.{shows_room}
use Rattle.scrub_reclaim.proofs.KeptExtents.{AreFound, IsKept, found_both, spares_kept}
use Rattle.scrub_reclaim.proofs.LooseFrames.{carried_over}
use Rattle.scrub_reclaim.proofs.LooseLaw.{holds_it}
use Rattle.scrub_reclaim.proofs.RisenTexts.{manifests_rise}

-- ---- lists

-- an extent is that of a room, or of none
room_cases : (rooms : List RoomValue) (e : ℕ) →
    ((r : RoomValue) × Contains rooms r × (r.extent ≡ e)) ⊎ (¬ Contains (extents_of rooms) e)
room_cases [] e = inr (λ there. omega (arith, there.1))
room_cases (r ∷ rooms) e = by (r.extent == e) refl (room_cases rooms e)
  where
    neither : (r.extent == e) ≡ false → ¬ Contains (extents_of rooms) e → (r.extent ≡ e) ⊎ Contains (extents_of rooms) e → ⊥
    neither other none (inl here) = false≢true (sym other ∙ eq-eqb r.extent e here)
    neither other none (inr later) = none later

    by : (b : Bool) → (r.extent == e) ≡ b →
        ((s : RoomValue) × Contains rooms s × (s.extent ≡ e)) ⊎ (¬ Contains (extents_of rooms) e) →
        ((s : RoomValue) × Contains (r ∷ rooms) s × (s.extent ≡ e)) ⊎ (¬ Contains (extents_of (r ∷ rooms)) e)
    by true same rest = inl (r, (0, omega arith, refl), eqb-true r.extent e same)
    by false other (inl (s, there, is)) = inl (s, Contains-behind r rooms s there, is)
    by false other (inr none) = inr (λ there. neither other none (Contains-cases r.extent (extents_of rooms) e there))

-- ---- the extents of a disk

module _ (rooms : List RoomValue) (before after : Image) (found rest : Scrubbed) (x : IsScrubbed before found) (y : IsScrubbed after rest)
    (loose : LooseValue) (those : AreLoose [] before found.plan loose) (c : IsAfterCopies rooms before after) where
  plans : IsPlanAfterCopies rooms found.plan rest.plan
  plans =
      subst (λ (p : PlanValue). IsPlanAfterCopies rooms p rest.plan) (plan_found before found c.old x c.was)
      (subst (λ (q : PlanValue). IsPlanAfterCopies rooms c.old q) (plan_found after rest c.new y c.is) c.plans)

  -- the same extents were scanned
  numbers : extent_numbers rest.all ≡ extent_numbers found.all
  numbers = same_numbers [] [] before after found rest c.sizes plans.retired x y

  known_before : (f : Scanned) → Contains found.all f → IsScannedBy before found.plan f
  known_before f there = All-contains (IsScannedBy before found.plan) found.all f (scanned_by before found.plan found.all x.all) there

  known_after : (g : Scanned) → Contains rest.all g → IsScannedBy after rest.plan g
  known_after g there = All-contains (IsScannedBy after rest.plan) rest.all g (scanned_by after rest.plan rest.all y.all) there

  -- what is known of the extent of a room
  record HasRoom (r : RoomValue) (f : Scanned) : Type 0 where
    place_is : r.place ≡ place_in found.plan.geometry f
    unclosed : is_closed found.all loose found.checked f.extent ≡ false
    shown : IsRoom before found.checked f.extent f.pointer (place_in found.plan.geometry f)

  -- a room's extent was scanned
  scanned_room : (r : RoomValue) → Contains rooms r → (f : Scanned) × Contains found.all f × (f.extent ≡ r.extent) × HasRoom r f
  scanned_room r there =
      let h : HasRoomAt before r.extent r.place = All-contains (λ (s : RoomValue). HasRoomAt before s.extent s.place) rooms r c.had there in
      let same : h.found ≡ found = one_scrub before h.found found h.scrubbed x in
      let frames_are : h.loose ≡ loose = one_loose [] before found.plan h.loose loose (subst (λ (s : Scrubbed). AreLoose [] before s.plan h.loose) same h.are_loose) those in
      let among : Contains found.all h.scanned = subst (λ (s : Scrubbed). Contains s.all h.scanned) same h.among in
      let offers : offers_room found.plan.geometry found.all loose found.checked h.scanned ≡ true =
      (λ i. (offered h.scanned) (sym frames_are i) (sym same i)) ∙ h.fits in
      let parts = and_parts (not (is_closed found.all loose found.checked h.scanned.extent)) (has_room found.plan.geometry found.checked h.scanned) offers in (
        h.scanned,
        among,
        h.extent_is,
        record {
          place_is = h.place_is ∙ ap (λ (s : Scrubbed). place_in s.plan.geometry h.scanned) same;
          unclosed = false_from_not (is_closed found.all loose found.checked h.scanned.extent) parts.0;
          shown =
              All-contains (λ (f : Scanned). has_room found.plan.geometry found.checked f ≡ true → IsRoom before found.checked f.extent f.pointer (place_in found.plan.geometry f)) found.all h.scanned (shows_room before found c.whole x) among parts.1;
        },
      )
    where
      offered : Scanned → LooseValue → Scrubbed → Bool
      offered f v s = offers_room s.plan.geometry s.all v s.checked f

  -- and is scanned after the copies
  scanned_after : (f : Scanned) → Contains found.all f → (g : Scanned) × Contains rest.all g × (g.extent ≡ f.extent)
  scanned_after f there =
      Contains-from_map (λ (h : Scanned). h.extent) rest.all f.extent
      (subst (λ (ns : List ℕ). Contains ns f.extent) (sym numbers) (Contains-map (λ (h : Scanned). h.extent) found.all f there))

  has_room_there : (r : RoomValue) → Contains rooms r → (f : Scanned) → IsScannedBy before found.plan f → f.extent ≡ r.extent → HasRoom r f
  has_room_there r there f known number =
      let s = scanned_room r there in
      let is = known_before s.0 s.1 in
      let same : s.0 ≡ f = one_scanned before found.plan s.0 f (s.2 ∙ sym number) is.0 known.0 is.1 known.1 in
      subst (λ (h : Scanned). HasRoom r h) same s.3

  filled : (r : RoomValue) → Contains rooms r → (f g : Scanned) → IsScannedBy before found.plan f → IsScannedBy after rest.plan g →
      f.extent ≡ r.extent → g.extent ≡ r.extent →
      IsFilled before after r.extent f.pointer g.pointer r.place f.findings.items g.findings.items
  filled r there f g among here old new =
      filled_room found.checked before after r.extent f.pointer g.pointer r.place f.findings.items g.findings.items c.sizes shown at kept moved was is
    where
      room : HasRoom r f
      room = has_room_there r there f among old

      shown : IsRoom before found.checked r.extent f.pointer r.place
      shown =
          subst (λ (p : ℕ). IsRoom before found.checked r.extent f.pointer p) (sym room.place_is)
          (subst (λ (e : ℕ). IsRoom before found.checked e f.pointer (place_in found.plan.geometry f)) old room.shown)

      at : r.place ≡ next_place before.geometry.page f.pointer f.findings.items
      at = room.place_is ∙ ap (λ (s : Geometry). place_in s f) ((plan_parts found.choice found.plan x.plan).geometry ∙ x.choice.geometry)

      was : IsTiling (extent_of before r.extent f.pointer) f.findings.items
      was = subst (λ (e : ℕ). IsTiling (extent_of before e f.pointer) f.findings.items) old among.1.tiled

      moved : r.place ≤ g.pointer
      moved =
          let m : (w : ℕ) × (pointer_of rest.plan r.extent ≡ Some w) × (r.place ≤ w) =
          All-contains (λ (s : RoomValue). (w : ℕ) × (pointer_of rest.plan s.extent ≡ Some w) × (s.place ≤ w)) rooms r plans.moved there in
          let same : m.0 ≡ g.pointer = same_Some m.0 g.pointer (sym m.1 ∙ ap (pointer_of rest.plan) (sym new) ∙ here.0) in
          omega (arith, m.2, same)

      kept : (p : ℕ) → p < r.place → image_byte after r.extent p ≡ image_byte before r.extent p
      kept = All-contains (λ (s : RoomValue). (p : ℕ) → p < s.place → image_byte after s.extent p ≡ image_byte before s.extent p) rooms r c.kept there

      is : IsTiling (extent_of after r.extent g.pointer) g.findings.items
      is = subst (λ (e : ℕ). IsTiling (extent_of after e g.pointer) g.findings.items) new here.1.tiled

  -- an extent without copies is the same
  the_same : (e : ℕ) → ¬ Contains (extents_of rooms) e → IsTheSame before after found.plan rest.plan e
  the_same e other = record {
    sizes = c.sizes;
    retired = plans.retired;
    pointer = plans.pointers e other;
    bytes = λ w is.
        let there = in_disk before found.plan (plan_in before found x) e w is in λ p below. c.others e p there.0 there.1 other;
  }

  kept_in : (f g : Scanned) → g.extent ≡ f.extent → IsScannedBy before found.plan f → IsScannedBy after rest.plan g → IsKept f g
  kept_in f g number among here = record { extent = number; chunks = by (room_cases rooms f.extent) }
    where
      by : ((r : RoomValue) × Contains rooms r × (r.extent ≡ f.extent)) ⊎ (¬ Contains (extents_of rooms) f.extent) →
          (item : Item) → Contains f.findings.items item → is_chunk item ≡ true → Contains g.findings.items item
      by (inl (r, there, is)) = (filled r there f g among here (sym is) (number ∙ sym is)).grown.chunks
      by (inr other) =
          λ item inside chunk.
          subst (λ (items : List Item). Contains items item)
          (sym (alike_items before after found.plan rest.plan f g number among here (the_same f.extent other))) inside

  all_kept : AllZip IsKept found.all rest.all
  all_kept =
      along (IsScannedBy before found.plan) (IsScannedBy after rest.plan) IsKept kept_in found.all rest.all numbers
      (scanned_by before found.plan found.all x.all) (scanned_by after rest.plan rest.all y.all)

  -- ---- what is named

  -- a named locator into a room is sound
  sound_in : (r : RoomValue) → Contains rooms r → (i : ℕ) (d : Checked) → i < length found.checked →
      r.extent ≡ (get_or found.checked i d).locator.extent → (get_or found.checked i d).status ≡ Sound
  sound_in r there i d below number = let s = scanned_room r there in s.3.shown.sound i d below (sym number ∙ sym s.2)

  carry : All (λ (k : Checked). Carries before after found.plan rest.plan k.locator) found.checked
  carry i d below = by (room_cases rooms one.locator.extent)
    where
      one : Checked
      one = get_or found.checked i d

      by : ((r : RoomValue) × Contains rooms r × (r.extent ≡ one.locator.extent)) ⊎ (¬ Contains (extents_of rooms) one.locator.extent) →
          Carries before after found.plan rest.plan one.locator
      by (inl (r, there, number)) =
          let s = scanned_room r there in
          let t = scanned_after s.0 s.1 in
          let was = known_before s.0 s.1 in
          let now = known_after t.0 t.1 in
          let at : IsFilled before after one.locator.extent s.0.pointer t.0.pointer r.place s.0.findings.items t.0.findings.items =
          subst (λ (e : ℕ). IsFilled before after e s.0.pointer t.0.pointer r.place s.0.findings.items t.0.findings.items) number (filled r there s.0 t.0 was now s.2 (t.2 ∙ s.2)) in
          filled_carries one.locator at found.plan rest.plan plans.retired
          (ap (pointer_of found.plan) (sym number ∙ sym s.2) ∙ was.0)
          (ap (pointer_of rest.plan) (sym number ∙ sym s.2 ∙ sym t.2) ∙ now.0)
          (subst (λ (u : Status). HasStatusIn before found.plan one.locator u) (sound_in r there i d below number) (x.checked.statuses i d below))
      by (inr other) = carries one.locator (the_same one.locator.extent other)

  -- the form of the chunk at a sound locator's place
  same_form : (k : Checked) → HasStatusIn before found.plan k.locator Sound → form_at rest.all k.locator ≡ form_at found.all k.locator
  same_form k sound = by (found_both found.all rest.all k.locator.extent all_kept)
    where
      l : Locator
      l = k.locator

      nowhere : (all : List Scanned) → entry_of all l.extent ≡ None → form_at all l ≡ None
      nowhere all none =
          ap (λ (o : Option Scanned). option_and_then form_of (option_and_then (λ h. find (λ item. start_of item == l.offset) h.findings.items) o)) none

      by : AreFound found.all rest.all k.locator.extent → form_at rest.all k.locator ≡ form_at found.all k.locator
      by (inl none) = nowhere rest.all none.1 ∙ sym (nowhere found.all none.0)
      by (inr (f, g, ef, eg, cf, cg, number, kept)) =
          let was : IsTiling (extent_of before l.extent f.pointer) f.findings.items =
          subst (λ (e : ℕ). IsTiling (extent_of before e f.pointer) f.findings.items) number (known_before f cf).1.tiled in
          let is : IsTiling (extent_of after l.extent g.pointer) g.findings.items =
          subst (λ (e : ℕ). IsTiling (extent_of after e g.pointer) g.findings.items) (kept.extent ∙ number) (known_after g cg).1.tiled in
          let under = sound_under before found.plan l f.pointer (ap (pointer_of found.plan) (sym number) ∙ (known_before f cf).0) sound in
          let n = under.0 in
          let there = sound_chunk before f.pointer l f.findings.items was n under.1 in
          form_there after g.pointer l rest.all g n.found.form l.uuid n.payload eg is (kept.chunks (chunk_of l.offset n.found.form l.uuid n.payload) there refl)
          ∙ sym (form_there before f.pointer l found.all f n.found.form l.uuid n.payload ef was there)

  forms : HaveTheSameForms found rest
  forms i d below sound =
      same_form (get_or found.checked i d)
      (subst (λ (u : Status). HasStatusIn before found.plan (get_or found.checked i d).locator u) sound (x.checked.statuses i d below))

  -- ---- the law

  -- after copies into rooms the same is named as before
  names_alike : NameTheSame found rest
  names_alike = named_alike [] [] before after found rest x y plans.has plans.runs plans.retired carry forms

  -- each room's extent has its old chunks, and whole frames from the place on are chunks
  holds_copies : All (λ (r : RoomValue). HoldsCopies after found rest r) rooms
  holds_copies i d below =
      let r : RoomValue = get_or rooms i d in
      let there : Contains rooms r = All-contains_itself rooms i d below in
      let s = scanned_room r there in
      let t = scanned_after s.0 s.1 in
      let is : IsFilled before after r.extent s.0.pointer t.0.pointer r.place s.0.findings.items t.0.findings.items =
      filled r there s.0 t.0 (known_before s.0 s.1) (known_after t.0 t.1) s.2 (t.2 ∙ s.2) in
      record {
        old = s.0;
        new = t.0;
        was = s.1;
        is = t.1;
        old_extent = s.2;
        new_extent = t.2 ∙ s.2;
        chunks = is.grown.chunks;
        copies = λ fs placed.
            frames_are_chunks (extent_of after r.extent t.0.pointer) r.place fs is.grown.rest t.0.findings.items
            (omega (arith, after.geometry.page_least)) is.grown.joined is.grown.each is.grown.among placed;
      }

  -- ---- the best copies

  -- a loose copy isn't in a room
  outside_rooms : (k : Checked) → Contains found.checked k → (s : Standing) → Contains (loose_of found.all loose.frames k) s →
      ¬ Contains (extents_of rooms) s.extent
  outside_rooms k there s copy = by (room_cases rooms s.extent)
    where
      by : ((r : RoomValue) × Contains rooms r × (r.extent ≡ s.extent)) ⊎ (¬ Contains (extents_of rooms) s.extent) → ¬ Contains (extents_of rooms) s.extent
      by (inr other) = other
      by (inl (r, among, number)) =
          let t = scanned_room r among in
          let holds : holds_loose found.all loose.frames found.checked t.0.extent ≡ true =
          ap (holds_loose found.all loose.frames found.checked) (t.2 ∙ number) ∙ holds_it found.all loose.frames found.checked k s there copy in
          absurd
          (false≢true
          (sym t.3.unclosed
          ∙ ap (λ (b : Bool). b || list_any (λ n. n == t.0.extent) (crowded_now found.all loose.crowded found.checked)) holds))

  -- so it stays a loose frame
  frame_there : (others : LooseValue) → AreLoose [] after rest.plan others → (s : Standing) → Contains loose.frames s →
      ¬ Contains (extents_of rooms) s.extent → Contains others.frames s
  frame_there others m s there other =
      let searched : IsSearched [] found.plan s.extent = ((those.frames s).0 there).searched in
      let in_disk = planned_there [] before found x s.extent searched.in_use in
      let alike : AreAlike before after s.extent = record { sizes = c.sizes; bytes = fun_ext (λ p. c.others s.extent p in_disk.0 in_disk.1 other) } in
      carried_over [] [] found.plan rest.plan s alike loose others those m
      (λ h. record {
        in_use = subst (λ (ns : List ℕ). Contains ns s.extent) (sym (same_planned [] [] before after found rest c.sizes plans.retired x y)) h.in_use;
        stays = h.stays;
      })
      there

  copies_rise : (others : LooseValue) → AreLoose [] after rest.plan others →
      All (λ (k : Checked). rank (best_of found.all loose.frames k) ≤ rank (best_of rest.all others.frames k)) found.checked
  copies_rise others m i d below =
      let k : Checked = get_or found.checked i d in
      as_good k found.all rest.all loose.frames others.frames
      (λ some.
      let one = first_of (spares_of found.all k) some in
      not_nil (spares_of rest.all k) one.0 (spares_kept found.all rest.all k one.0 all_kept one.1))
      (λ some.
      let one = first_of (loose_of found.all loose.frames k) some in
      let is = loose_among k found.all rest.all loose.frames others.frames one.0 one.1 in
      (one.0, one.1, frame_there others m one.0 is.2 (outside_rooms k (All-contains_itself found.checked i d below) one.0 one.1)))

  texts : (others : LooseValue) → AreLoose [] after rest.plan others →
      IsSameButRisen (manifest_text found loose.frames) (manifest_text rest others.frames)
  texts others m = manifests_rise found rest loose.frames others.frames names_alike (copies_rise others m)

module _ (rooms : List RoomValue) (before after : Image) where
  -- After copies the manifest is the same, but that words for best copies may have risen, and so is its verdict.
  pub same_but_risen : (a b : List ℕ) (v w : Bool) → IsAfterCopies rooms before after → IsManifest before a v → IsManifest after b w →
      IsSameButRisen a b × (v ≡ w)
  same_but_risen a b v w c x y = (
    subst (λ (t : List ℕ). IsSameButRisen t b) (sym x.text_is)
        (subst (λ (t : List ℕ). IsSameButRisen (manifest_text x.found x.loose.frames) t) (sym y.text_is)
        (texts rooms before after x.found y.found x.scrubbed y.scrubbed x.loose x.are_loose c y.loose y.are_loose)),
    x.verdict
        ∙ sym (same_verdict x.found y.found (names_alike rooms before after x.found y.found x.scrubbed y.scrubbed x.loose x.are_loose c))
        ∙ sym y.verdict,
  )

-- the laws that say nothing of loose frames: there are some
module _ (rooms : List RoomValue) (before after : Image) (found rest : Scrubbed) (x : IsScrubbed before found) (y : IsScrubbed after rest)
    (c : IsAfterCopies rooms before after) where
  there_are : (v : LooseValue) × AreLoose [] before found.plan v
  there_are = some_loose [] before found.plan (plan_fits before found.choice found.plan x.choice x.plan)

  -- After copies into rooms the same is named as before.
  pub named_as_before : NameTheSame found rest
  named_as_before = names_alike rooms before after found rest x y there_are.0 there_are.1 c

  -- After copies each room's extent has its old chunks, and whole frames from the place on are chunks.
  pub chunks_there : All (λ (r : RoomValue). HoldsCopies after found rest r) rooms
  chunks_there = holds_copies rooms before after found rest x y there_are.0 there_are.1 c
