-- What is safe overwrote nothing: no byte below a write pointer, and no chunk.
use Rattle.std.proofs.Common.{◌≡◌, ◌≢◌, ◌<◌, ◌≤◌, ◌+◌, ◌==◌, ℕ, zero, suc, Bool, true, false, List, [], Option, Some, None, get_or, codes, arith, refl, sym, ◌∙◌, ap, subst, inl, inr, if◌then◌else◌}
use Rattle.std.specs.List.{Contains, slice_get}
use Rattle.std.specs.Option.{option_and_then, unwrap_or}
use Rattle.std.proofs.lemmas.Bool.{eqb-true}
use Rattle.std.proofs.lemmas.Option.{none-some, same_Some, slice_get-get_or}
use Rattle.std.proofs.lemmas.List.Elements.{All-contains}
use Rattle.list_facts.proofs.Searches.{find_passes}
use Rattle.list_facts.proofs.Elements.{both_nil}
use Rattle.scrub_disk.specs.declared.geometry.Geometry.{Geometry}
use Rattle.scrub_disk.specs.Image.{Image, image_byte}
use Rattle.scrub_super.specs.Plan.{pointer_of}
use Rattle.scrub_scan.specs.Scanned.{Scanned}
use Rattle.scrub_scan.specs.AllFindings.{entry_of}
use Rattle.scrub_found.specs.Scrubbed.{Scrubbed, IsScrubbed}
use Rattle.scrub_found.proofs.OneScrub.{one_scrub}
use Rattle.scrub_reclaim.specs.Room.{has_room, place_in}
use Rattle.scrub_reclaim.proofs.NextPlaces.{place_above}
use Rattle.scrub_reclaim.proofs.Reset.{plan_in}
use Rattle.scrub_reclaim.proofs.SameExtents.{in_disk}
use Rattle.scrub_compare.specs.Written.{IsLeastNumber, IsWrittenIn, MayChangeInRoom, pointer_in, room_at, room_of}
use Rattle.scrub_compare.specs.Compare.{AreCompared, Compared, is_reset, lines_in, may_follow, pointer_line, written_line}
use Rattle.scrub_compare.specs.Laws.{IsSafe, KeepsBytes}
use Rattle.scrub_compare.proofs.ChangedBytes.{same_or_other}
use Rattle.scrub_compare.proofs.Safe.{HasNoLine, no_line, no_lines_of, passed, some_text}

-- ---- the place of room

-- an extent with room was scanned, and the place is the one for its next frame
pub record IsRoomOf (found : Scrubbed) (e place : ℕ) : Type 0 where
  pub scanned : Scanned
  pub among : Contains found.all scanned
  pub entry : entry_of found.all e ≡ Some scanned
  pub fits : has_room found.plan.geometry found.checked scanned ≡ true
  pub place_is : place ≡ place_in found.plan.geometry scanned

-- If an extent has room at a place, it was scanned, and the place is the one for its next frame.
pub room_scanned : (found : Scrubbed) (e place : ℕ) → room_at found e ≡ Some place → IsRoomOf found e place
room_scanned found e place = by (entry_of found.all e) refl
  where
    fits : (f : Scanned) (b : Bool) → has_room found.plan.geometry found.checked f ≡ b →
        (if b then Some (place_in found.plan.geometry f) else None) ≡ Some place → (b ≡ true) × (place ≡ place_in found.plan.geometry f)
    fits f true is e = (refl, sym (same_Some (place_in found.plan.geometry f) place e))
    fits f false is e = absurd (none-some place e)

    by : (o : Option Scanned) → entry_of found.all e ≡ o → option_and_then (room_of found.plan.geometry found.checked) o ≡ Some place →
        IsRoomOf found e place
    by None is e = absurd (none-some place e)
    by (Some f) is at =
        let t = fits f (has_room found.plan.geometry found.checked f) refl at in
        record { scanned = f; among = (find_passes (λ g. g.extent == e) found.all f is).1; entry = is; fits = t.0; place_is = t.1 }

-- it has its number
pub room_number : (found : Scrubbed) (e place : ℕ) (r : IsRoomOf found e place) → r.scanned.extent ≡ e
room_number found e place r = eqb-true r.scanned.extent e (find_passes (λ g. g.extent == e) found.all r.scanned r.entry).0

-- ---- what is safe

module _ (resets : List ℕ) (before after : Image) (sizes : after.geometry ≡ before.geometry) (c : Compared)
    (are : AreCompared resets before after c) (none : HasNoLine resets c) where
  -- an extent has neither of its lines
  no_lines_in : (k : ℕ) → k + 1 < before.geometry.extents →
      (may_follow (is_reset resets (k + 1)) (room_at c.before (k + 1)) (pointer_in c.before.plan (k + 1)) (pointer_in c.after.plan (k + 1)) ≡ true)
      × ((p : ℕ) → ¬ IsWrittenIn before after (room_at c.before (k + 1)) (pointer_in c.after.plan (k + 1)) (k + 1) p)
  no_lines_in k inside = (
    passed (may_follow (is_reset resets (k + 1)) (room_at c.before (k + 1)) (pointer_in c.before.plan (k + 1)) (pointer_in c.after.plan (k + 1))) (codes "pointer") _ (omega arith) parts.0,
    by first parts.1 (are.firsts.each k first at),
  )
    where
      first : Option ℕ
      first = get_or c.firsts k None

      at : slice_get c.firsts k ≡ Some first
      at = slice_get-get_or c.firsts k None (omega (arith, inside, are.firsts.count))

      lines : lines_in resets c.before c.after (k + 1) first ≡ []
      lines =
          ap (λ (m : ℕ). lines_in resets c.before c.after m first) (let e : k + 1 ≡ 0 + k + 1 = omega arith in e)
          ∙ no_lines_of resets c.before c.after 0 c.firsts none.extents k first at

      parts : (pointer_line resets (room_at c.before (k + 1)) (k + 1) (pointer_in c.before.plan (k + 1)) (pointer_in c.after.plan (k + 1)) ≡ []) × (written_line (k + 1) first ≡ [])
      parts = both_nil (pointer_line resets (room_at c.before (k + 1)) (k + 1) (pointer_in c.before.plan (k + 1)) (pointer_in c.after.plan (k + 1))) (written_line (k + 1) first) lines

      by : (o : Option ℕ) → written_line (k + 1) o ≡ [] → IsLeastNumber (IsWrittenIn before after (room_at c.before (k + 1)) (pointer_in c.after.plan (k + 1)) (k + 1)) o →
          (p : ℕ) → ¬ IsWrittenIn before after (room_at c.before (k + 1)) (pointer_in c.after.plan (k + 1)) (k + 1) p
      by None empty least = least
      by (Some q) empty least = absurd (some_text (codes "written") _ (omega arith) empty)

  -- an extent of the disk but extent 0 is one after another
  behind : (e : ℕ) → e ≢ 0 → e < before.geometry.extents → (k : ℕ) × (e ≡ k + 1) × (k + 1 < before.geometry.extents)
  behind zero some inside = absurd (some refl)
  behind (suc k) some inside = (k, omega arith, omega (arith, inside))

  -- Without a line the new write pointer of each extent but extent 0 may follow the old one.
  pub may_follow_in : (e : ℕ) → e ≢ 0 → e < before.geometry.extents →
      may_follow (is_reset resets e) (room_at c.before e) (pointer_in c.before.plan e) (pointer_in c.after.plan e) ≡ true
  may_follow_in e some inside =
      let b = behind e some inside in
      subst (λ (n : ℕ). may_follow (is_reset resets n) (room_at c.before n) (pointer_in c.before.plan n) (pointer_in c.after.plan n) ≡ true) (sym b.1)
      (no_lines_in b.0 b.2).0

  -- a byte that may not change is what it was
  pub stays : (e p : ℕ) → e ≢ 0 → e < before.geometry.extents →
      (¬ MayChangeInRoom before after (room_at c.before e) (pointer_in c.after.plan e) e p) → image_byte after e p ≡ image_byte before e p
  stays e p some inside may_not = elim (same_or_other (image_byte before e p) (image_byte after e p)) [
    | inl same ↦ sym same
    | inr other ↦
        let b = behind e some inside in
        absurd (subst (λ (n : ℕ). ¬ IsWrittenIn before after (room_at c.before n) (pointer_in c.after.plan n) n p) (sym b.1)
        ((no_lines_in b.0 b.2).1 p) (other, may_not))
  ]

  -- the place of room isn't below the write pointer
  pub place_from : (e place : ℕ) → room_at c.before e ≡ Some place → pointer_in c.before.plan e ≤ place
  place_from e place is =
      let r = room_scanned c.before e place is in
      let f = r.scanned in
      let number : f.extent ≡ e = room_number c.before e place r in
      let pointer : pointer_of c.before.plan f.extent ≡ Some f.pointer = All-contains (λ (g : Scanned). pointer_of c.before.plan g.extent ≡ Some g.pointer) c.before.all f are.scrubbed_before.all.pointers r.among in
      let w : pointer_in c.before.plan e ≡ f.pointer = ap (λ (n : ℕ). pointer_in c.before.plan n) (sym number) ∙ ap (λ (o : Option ℕ). unwrap_or o 0) pointer in
      let g : Geometry = c.before.plan.geometry in
      let low = place_above g.page f.pointer f.findings.items (omega (arith, g.page_least)) in
      omega (arith, w, low, r.place_is)

  -- in front of the place, and where there is no room, no byte may change
  pub in_front : (e p : ℕ) → ((place : ℕ) → room_at c.before e ≡ Some place → p < place) →
      ¬ MayChangeInRoom before after (room_at c.before e) (pointer_in c.after.plan e) e p
  in_front e p below = by (room_at c.before e) refl
    where
      by : (o : Option ℕ) → room_at c.before e ≡ o → MayChangeInRoom before after o (pointer_in c.after.plan e) e p → ⊥
      by None is m = m
      by (Some place) is m = omega (arith, below place is, m.0)

  -- what has a write pointer above 0 is an extent of the disk, and not extent 0
  has_pointer : (e p : ℕ) → p < pointer_in c.before.plan e → (e ≢ 0) × (e < before.geometry.extents)
  has_pointer e p below = by (pointer_of c.before.plan e) refl below
    where
      by : (o : Option ℕ) → pointer_of c.before.plan e ≡ o → p < unwrap_or o 0 → (e ≢ 0) × (e < before.geometry.extents)
      by None is less = absurd (omega (arith, less))
      by (Some w) is less = in_disk before c.before.plan (plan_in before c.before are.scrubbed_before) e w is

  -- Without a line each byte below an earlier write pointer is what it was.
  pub bytes_stay : KeepsBytes before after c.before
  bytes_stay e p below =
      let there = has_pointer e p below in
      stays e p there.0 there.1 (in_front e p (λ place is. omega (arith, below, place_from e place is)))

-- A safe step changes no byte below an earlier write pointer.
pub keeps_bytes : (resets : List ℕ) (before after : Image) (found : Scrubbed) → IsSafe resets before after → IsScrubbed before found →
    KeepsBytes before after found
keeps_bytes resets before after found s x =
    subst (λ (f : Scrubbed). KeepsBytes before after f) (one_scrub before s.safe.compared.before found s.safe.are.scrubbed_before x)
    (bytes_stay resets before after s.sizes s.safe.compared s.safe.are (no_line resets s.safe.compared (sym s.safe.verdict)))
