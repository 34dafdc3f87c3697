-- What is safe keeps each chunk of an extent that isn't to be reset.
use Rattle.std.proofs.Common.{◌≡◌, ◌≢◌, ◌⊎◌, ◌<◌, ◌≤◌, ◌==◌, ◌&&◌, ◌||◌, ℕ, Bool, true, false, not, nat_lt, List, [], Option, Some, None, get_or, arith, refl, sym, ◌∙◌, ap, subst, inl, inr}
use Rattle.std.specs.List.{Contains}
use Rattle.std.specs.Option.{option_map_or, unwrap_or}
use Rattle.std.proofs.lemmas.Bool.{eqb-true, false≢true, ltb-false}
use Rattle.std.proofs.lemmas.List.Elements.{All-contains, All-contains_itself}
use Rattle.std.proofs.lemmas.Option.{same_Some}
use Rattle.list_facts.proofs.Bools.{false_from_not}
use Rattle.list_facts.proofs.Elements.{Contains-from_map, Contains-map}
use Rattle.scrub_disk.specs.declared.geometry.Geometry.{Geometry}
use Rattle.scrub_disk.specs.Image.{Image, image_byte}
use Rattle.scrub_super.specs.Plan.{pointer_of}
use Rattle.scrub_scan.specs.declared.item.Item.{Item}
use Rattle.scrub_scan.specs.AllFindings.{extent_numbers}
use Rattle.scrub_scan.specs.Extent.{extent_of}
use Rattle.scrub_scan.specs.Scanned.{Scanned}
use Rattle.scrub_scan.specs.Tiling.{IsTiling}
use Rattle.scrub_check.specs.Live.{is_chunk}
use Rattle.scrub_found.specs.Scrubbed.{Scrubbed, IsScrubbed}
use Rattle.scrub_found.proofs.OneScrub.{one_scrub}
use Rattle.scrub_reclaim.specs.Room.{IsRoom, has_room, place_in}
use Rattle.scrub_reclaim.proofs.NextPlaces.{Grown, grown}
use Rattle.scrub_reclaim.proofs.SameExtents.{IsScannedBy, alike_items, in_disk, same_numbers, scanned_by}
use Rattle.scrub_reclaim.proofs.RoomLines.{shows_room}
use Rattle.scrub_disk.specs.Image.{HasWholePages}
use Rattle.scrub_super.proofs.PlanParts.{plan_parts}
use Rattle.scrub_scan.specs.Findings.{IsFindings}
use Rattle.scrub_found.proofs.OneReader.{one_scanned}
use Rattle.scrub_reclaim.specs.Room.{next_place}
use Rattle.scrub_reclaim.proofs.CopiedExtents.{filled_room}
use Rattle.scrub_reclaim.proofs.Reset.{among_cases, plan_in}
use Rattle.scrub_reclaim.proofs.ResetCopies.{reset}
use Rattle.scrub_compare.specs.Written.{pointer_in, room_at}
use Rattle.scrub_compare.specs.Compare.{AreCompared, Compared, is_reset, may_follow}
use Rattle.scrub_compare.specs.Laws.{IsSafe, KeepsChunks}
use Rattle.scrub_compare.proofs.Overwritten.{IsRoomOf, bytes_stay, in_front, may_follow_in, room_number, room_scanned, stays}
use Rattle.scrub_compare.proofs.Safe.{HasNoLine, no_line, same_retired}

-- ---- which write pointers may follow

-- outside of the resets a write pointer is the same, or not below the place of room
followed : (room : Option ℕ) (old new : ℕ) → may_follow false room old new ≡ true →
    (new ≡ old) ⊎ ((place : ℕ) × (room ≡ Some place) × (place ≤ new))
followed room old new = by (new == old) refl room
  where
    place_of : (o : Option ℕ) → option_map_or (λ place. not (nat_lt new place)) o false ≡ true →
        (place : ℕ) × (o ≡ Some place) × (place ≤ new)
    place_of None is = absurd (false≢true is)
    place_of (Some place) is = (place, refl, ltb-false new place (false_from_not (nat_lt new place) is))

    by : (b : Bool) → (new == old) ≡ b → (o : Option ℕ) →
        (b || (false && (new == 0)) || option_map_or (λ place. not (nat_lt new place)) o false) ≡ true →
        (new ≡ old) ⊎ ((place : ℕ) × (o ≡ Some place) × (place ≤ new))
    by true same o is = inl (eqb-true new old same)
    by false other o is = inr (place_of o is)

-- ---- what is safe

module _ (resets : List ℕ) (before after : Image) (sizes : after.geometry ≡ before.geometry) (c : Compared)
    (are : AreCompared resets before after c) (none : HasNoLine resets c) (whole : HasWholePages before) where
  -- the same extents are retired
  pub retired_now : c.after.plan.retired ≡ c.before.plan.retired
  retired_now = sym (reset resets after c.after c.after_resets are.scrubbed_after are.scrubbed_after_resets).retired ∙ same_retired resets c none

  numbers : extent_numbers c.after.all ≡ extent_numbers c.before.all
  numbers = same_numbers [] [] before after c.before c.after sizes retired_now are.scrubbed_before are.scrubbed_after

  -- an extent that isn't to be reset, and what was found in it before and now
  module _ (f g : Scanned) (there : Contains c.before.all f) (number : g.extent ≡ f.extent) (was : IsScannedBy before c.before.plan f)
      (is : IsScannedBy after c.after.plan g) (apart : ¬ Contains resets f.extent) where
    abbrev e : ℕ
    e = f.extent

    inside : (e ≢ 0) × (e < before.geometry.extents)
    inside = in_disk before c.before.plan (plan_in before c.before are.scrubbed_before) e f.pointer was.0

    pointer_was : pointer_in c.before.plan e ≡ f.pointer
    pointer_was = ap (λ (o : Option ℕ). unwrap_or o 0) was.0

    pointer_is : pointer_in c.after.plan e ≡ g.pointer
    pointer_is = ap (λ (n : ℕ). pointer_in c.after.plan n) (sym number) ∙ ap (λ (o : Option ℕ). unwrap_or o 0) is.0

    tiled_was : IsTiling (extent_of before e f.pointer) f.findings.items
    tiled_was = was.1.tiled

    tiled_is : IsTiling (extent_of after e g.pointer) g.findings.items
    tiled_is = subst (λ (n : ℕ). IsTiling (extent_of after n g.pointer) g.findings.items) number is.1.tiled

    -- under the same write pointer
    same_pointer : g.pointer ≡ f.pointer → g.findings.items ≡ f.findings.items
    same_pointer same =
        alike_items before after c.before.plan c.after.plan f g number was is (record {
          sizes = sizes;
          retired = retired_now;
          pointer = ap (pointer_of c.after.plan) (sym number) ∙ is.0 ∙ ap Some same ∙ sym was.0;
          bytes = λ w at p below.
              let pointer : pointer_in c.before.plan e ≡ w = ap (λ (o : Option ℕ). unwrap_or o 0) at in
              bytes_stay resets before after sizes c are none e p (omega (arith, below, pointer));
        })

    -- from the place of room on
    grown_from : (place : ℕ) → room_at c.before e ≡ Some place → place ≤ g.pointer →
        Grown (extent_of after e g.pointer) place f.findings.items g.findings.items
    grown_from place at moved =
        (filled_room c.before.checked before after e f.pointer g.pointer place f.findings.items g.findings.items sizes shown place_is kept moved tiled_was tiled_is).grown
      where
        room : IsRoomOf c.before e place
        room = room_scanned c.before e place at

        same : room.scanned ≡ f
        same =
            one_scanned before c.before.plan room.scanned f (room_number c.before e place room)
            (All-contains (λ (h : Scanned). pointer_of c.before.plan h.extent ≡ Some h.pointer) c.before.all room.scanned are.scrubbed_before.all.pointers room.among) was.0
            (All-contains (λ (h : Scanned). IsFindings before h.extent h.pointer h.findings) c.before.all room.scanned are.scrubbed_before.all.findings room.among) was.1

        fits : has_room c.before.plan.geometry c.before.checked f ≡ true
        fits = ap (λ (h : Scanned). has_room c.before.plan.geometry c.before.checked h) (sym same) ∙ room.fits

        at_place : place ≡ place_in c.before.plan.geometry f
        at_place = room.place_is ∙ ap (place_in c.before.plan.geometry) same

        shown : IsRoom before c.before.checked e f.pointer place
        shown =
            subst (λ (p : ℕ). IsRoom before c.before.checked e f.pointer p) (sym at_place)
            (All-contains (λ (h : Scanned). has_room c.before.plan.geometry c.before.checked h ≡ true → IsRoom before c.before.checked h.extent h.pointer (place_in c.before.plan.geometry h)) c.before.all f
            (shows_room before c.before whole are.scrubbed_before) there fits)

        place_is : place ≡ next_place before.geometry.page f.pointer f.findings.items
        place_is =
            at_place
            ∙ ap (λ (h : Geometry). place_in h f) ((plan_parts c.before.choice c.before.plan are.scrubbed_before.plan).geometry ∙ are.scrubbed_before.choice.geometry)

        kept : (p : ℕ) → p < place → image_byte after e p ≡ image_byte before e p
        kept p below =
            stays resets before after sizes c are none e p inside.0 inside.1
            (in_front resets before after sizes c are none e p (λ other o. omega (arith, below, same_Some place other (sym at ∙ o))))

    -- so each chunk is still one
    chunks_stay : (item : Item) → Contains f.findings.items item → is_chunk item ≡ true → Contains g.findings.items item
    chunks_stay item inside_items chunk = elim (followed (room_at c.before e) (pointer_in c.before.plan e) (pointer_in c.after.plan e) follows) [
      | inl same ↦
          subst (λ (items : List Item). Contains items item) (sym (same_pointer (sym pointer_is ∙ same ∙ pointer_was))) inside_items
      | inr (place, at, moved) ↦ (grown_from place at (omega (arith, moved, pointer_is))).chunks item inside_items chunk
    ]
      where
        out : is_reset resets e ≡ false
        out = elim (among_cases resets e) [
          | inl among ↦ absurd (apart among.1)
          | inr other ↦ other.0
        ]

        follows : may_follow false (room_at c.before e) (pointer_in c.before.plan e) (pointer_in c.after.plan e) ≡ true
        follows =
            subst (λ (b : Bool). may_follow b (room_at c.before e) (pointer_in c.before.plan e) (pointer_in c.after.plan e) ≡ true) out
            (may_follow_in resets before after sizes c are none e inside.0 inside.1)

  chunks_kept : KeepsChunks resets c.before c.after
  chunks_kept i d below apart =
      let f : Scanned = get_or c.before.all i d in
      let there : Contains c.before.all f = All-contains_itself c.before.all i d below in
      let m =
      Contains-from_map (λ (h : Scanned). h.extent) c.after.all f.extent (subst (λ (ns : List ℕ). Contains ns f.extent) (sym numbers) (Contains-map (λ (h : Scanned). h.extent) c.before.all f there)) in
      record {
        now = m.0;
        among = m.1;
        extent_is = m.2;
        chunks = chunks_stay f m.0 there m.2 (All-contains (IsScannedBy before c.before.plan) c.before.all f (scanned_by before c.before.plan c.before.all are.scrubbed_before.all) there)
            (All-contains (IsScannedBy after c.after.plan) c.after.all m.0 (scanned_by after c.after.plan c.after.all are.scrubbed_after.all) m.1) apart;
      }

-- After a safe step each extent that isn't reset still has each of its chunks.
pub keeps_chunks : (resets : List ℕ) (before after : Image) (found rest : Scrubbed) → HasWholePages before → IsSafe resets before after →
    IsScrubbed before found → IsScrubbed after rest → KeepsChunks resets found rest
keeps_chunks resets before after found rest whole s x y =
    subst (λ (f : Scrubbed). KeepsChunks resets f rest) (one_scrub before s.safe.compared.before found s.safe.are.scrubbed_before x)
    (subst (λ (r : Scrubbed). KeepsChunks resets s.safe.compared.before r) (one_scrub after s.safe.compared.after rest s.safe.are.scrubbed_after y)
    (chunks_kept resets before after s.sizes s.safe.compared s.safe.are (no_line resets s.safe.compared (sym s.safe.verdict)) whole))
