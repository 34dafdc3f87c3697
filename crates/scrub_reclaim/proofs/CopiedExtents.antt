-- One extent with room, before and after something was written there: its chunks are where they were, and sound locators stay
-- sound.
use Rattle.std.proofs.Common.{◌≡◌, ◌<◌, ◌≤◌, ◌==◌, ℕ, Bool, true, false, Option, Some, MatchBool, MatchOption, List, map, arith, refl, sym, ◌∙◌, ap, subst}
use Rattle.std.specs.List.{Contains, find, list_all, list_any}
use Rattle.std.specs.Option.{option_and_then}
use Rattle.std.proofs.lemmas.List.Sums.{AllPass-from_list_all}
use Rattle.scrub_disk.specs.declared.geometry.Geometry.{Geometry}
use Rattle.scrub_disk.specs.Image.{Image, image_byte}
use Rattle.scrub_frame.specs.declared.form.Form.{Form}
use Rattle.scrub_frame.specs.declared.locator.Locator.{Locator}
use Rattle.scrub_super.specs.Plan.{PlanValue, pointer_of}
use Rattle.scrub_scan.specs.declared.item.Item.{Item}
use Rattle.scrub_scan.specs.AllFindings.{entry_of}
use Rattle.scrub_scan.specs.Extent.{extent_of}
use Rattle.scrub_scan.specs.Item.{start_of}
use Rattle.scrub_scan.specs.Scanned.{Scanned}
use Rattle.scrub_scan.specs.Tiling.{IsTiling}
use Rattle.scrub_scan.proofs.Tilings.{one_tiling}
use Rattle.scrub_check.specs.declared.statuses.checked.Checked.{Checked}
use Rattle.scrub_check.specs.declared.statuses.status.Status.{Status}
use Rattle.scrub_check.specs.declared.statuses.status.Status.TheVariants.{OutOfRange, Sound}
use Rattle.scrub_check.specs.ChunkForms.{form_at, form_of}
use Rattle.scrub_check.specs.Status.{BeginsAt, HasStatus, HasStatusIn, HasStatusInRetired, NamesChunk, is_retired}
use Rattle.scrub_check.proofs.OneStatus.{one_in_plan}
use Rattle.scrub_check.proofs.RunStates.{HasStatusInUse}
use Rattle.scrub_check.proofs.Payloads.{same_payload}
use Rattle.scrub_found.specs.Scrubbed.{is_clean_item}
use Rattle.scrub_reclaim.specs.Room.{IsRoom, next_place}
use Rattle.scrub_reclaim.proofs.CarriedNames.{Carries}
use Rattle.scrub_reclaim.proofs.NextPlaces.{Grown, chunk_is_item, chunk_of, found_there, grown, item_there, place_above, starts_there}
use Rattle.scrub_reclaim.proofs.SameBelow.{AreSameBelow, names_below, payload_below}

-- ---- the chunk of a sound locator

-- it is the item at the locator's place
pub sound_chunk : (image : Image) (w : ℕ) (l : Locator) (items : List Item) → IsTiling (extent_of image l.extent w) items →
    (n : NamesChunk image w l) → BeginsAt (extent_of image l.extent w) l.offset →
    Contains items (chunk_of l.offset n.found.form l.uuid n.payload)
sound_chunk image w l items tiled n b =
    let x = extent_of image l.extent w in
    let pos : 0 < image.geometry.page = omega (arith, image.geometry.page_least) in
    item_there x items (chunk_of l.offset n.found.form l.uuid n.payload) pos tiled.each
    (chunk_is_item x l.offset n.found.form l.uuid n.payload n.found.frame)
    (subst (λ (is : List Item). Contains (map start_of is) l.offset) (one_tiling x b.items items pos b.tiled tiled) b.begins)

-- and has the form of that place
pub form_there : (image : Image) (w : ℕ) (l : Locator) (all : List Scanned) (f : Scanned) (g : Form) (u b : List ℕ) →
    entry_of all l.extent ≡ Some f → IsTiling (extent_of image l.extent w) f.findings.items →
    Contains f.findings.items (chunk_of l.offset g u b) → form_at all l ≡ Some g
form_there image w l all f g u b entry tiled there =
    ap (λ (o : Option Scanned). option_and_then form_of (option_and_then (λ h. find (λ item. start_of item == l.offset) h.findings.items) o)) entry
    ∙ ap (option_and_then form_of)
    (found_there (extent_of image l.extent w) f.findings.items (chunk_of l.offset g u b) (omega (arith, image.geometry.page_least)) tiled.each there)

-- ---- before and after

-- below a place that isn't below the old pointer, nor above the new one, an extent has the same bytes, and its items are grown
pub record IsFilled (before after : Image) (e w v place : ℕ) (old new : List Item) : Type 0 where
  pub sizes : after.geometry ≡ before.geometry
  pub kept : (p : ℕ) → p < place → image_byte after e p ≡ image_byte before e p
  pub above : w ≤ place
  pub moved : place ≤ v
  pub was : IsTiling (extent_of before e w) old
  pub is : IsTiling (extent_of after e v) new
  pub grown : Grown (extent_of after e v) place old new

-- An extent with room into which something is written from the place on is filled.
pub filled_room : (checked : List Checked) (before after : Image) (e w v place : ℕ) (old new : List Item) → after.geometry ≡ before.geometry →
    IsRoom before checked e w place → place ≡ next_place before.geometry.page w old →
    ((p : ℕ) → p < place → image_byte after e p ≡ image_byte before e p) → place ≤ v →
    IsTiling (extent_of before e w) old → IsTiling (extent_of after e v) new → IsFilled before after e w v place old new
filled_room checked before after e w v place old new sizes room at kept moved was is = record {
  sizes = sizes;
  kept = kept;
  above = above;
  moved = moved;
  was = was;
  is = is;
  grown =
      grown (extent_of before e w) (extent_of after e v) place positive (ap (λ (g : Geometry). g.page) sizes) kept room.zeros above moved old new was is
      (AllPass-from_list_all is_clean_item old clean) at;
}
  where
    positive : 0 < before.geometry.page
    positive = omega (arith, before.geometry.page_least)

    above : w ≤ place
    above = let low = place_above before.geometry.page w old positive in omega (arith, low, at)

    clean : list_all is_clean_item old ≡ true
    clean = ap (list_all is_clean_item) (one_tiling (extent_of before e w) old room.items positive was room.tiled) ∙ room.clean

module _ {before after : Image} {w v place : ℕ} {old new : List Item} (l : Locator) (f : IsFilled before after l.extent w v place old new) where
  kept_below : AreSameBelow before after l.extent w
  kept_below = record { sizes = f.sizes; bytes = λ p less. f.kept p (omega (arith, less, f.above)) }

  no_lower : w ≤ v
  no_lower = omega (arith, f.above, f.moved)

  sound_still : HasStatus before w l Sound → HasStatus after v l Sound
  sound_still h = (
    names_below l kept_below v no_lower h.0,
    record {
      items = new;
      tiled = f.is;
      begins =
          let chunk : Item = chunk_of l.offset h.0.found.form l.uuid h.0.payload in
          starts_there new chunk (f.grown.chunks chunk (sound_chunk before w l old f.was h.0 h.1) refl);
    },
  )

-- ---- by a plan

-- what is said of an extent that isn't retired, by its pointer
module _ (R N : Type 0) (U : ℕ → Type 0) (plan : PlanValue) (e w : ℕ) (free : is_retired plan e ≡ false)
    (is : pointer_of plan e ≡ Some w) where
  pub in_use : MatchBool (is_retired plan e) R (MatchOption (pointer_of plan e) N U) → U w
  in_use h =
      subst (λ (o : Option ℕ). MatchOption o N U) is
      (subst (λ (b : Bool). MatchBool b R (MatchOption (pointer_of plan e) N U)) free h)

  by_use : U w → MatchBool (is_retired plan e) R (MatchOption (pointer_of plan e) N U)
  by_use u =
      subst (λ (b : Bool). MatchBool b R (MatchOption (pointer_of plan e) N U)) (sym free)
      (subst (λ (o : Option ℕ). MatchOption o N U) (sym is) u)

-- a sound locator's extent isn't retired
pub not_retired : (image : Image) (plan : PlanValue) (l : Locator) → HasStatusIn image plan l Sound → is_retired plan l.extent ≡ false
not_retired image plan l = by (is_retired plan l.extent)
  where
    by : (b : Bool) → MatchBool b (HasStatusInRetired image l Sound) (HasStatusInUse image plan l Sound) → b ≡ false
    by true h = absurd h
    by false h = refl

-- what is said of it under its pointer
pub sound_under : (image : Image) (plan : PlanValue) (l : Locator) (w : ℕ) → pointer_of plan l.extent ≡ Some w →
    HasStatusIn image plan l Sound → HasStatus image w l Sound
sound_under image plan l w is h =
    in_use (HasStatusInRetired image l Sound) (Sound ≡ OutOfRange) (λ u. HasStatus image u l Sound) plan l.extent w
    (not_retired image plan l h) is h

module _ {before after : Image} {w v place : ℕ} {is js : List Item} (l : Locator) (f : IsFilled before after l.extent w v place is js)
    (old new : PlanValue) (retired : new.retired ≡ old.retired) (was : pointer_of old l.extent ≡ Some w)
    (now : pointer_of new l.extent ≡ Some v) (sound : HasStatusIn before old l Sound) where
  free_before : is_retired old l.extent ≡ false
  free_before = not_retired before old l sound

  free_after : is_retired new l.extent ≡ false
  free_after = ap (λ (rs : List ℕ). list_any (λ r. r == l.extent) rs) retired ∙ free_before

  under : HasStatus before w l Sound
  under = sound_under before old l w was sound

  sound_after : HasStatusIn after new l Sound
  sound_after =
      by_use (HasStatusInRetired after l Sound) (Sound ≡ OutOfRange) (λ u. HasStatus after u l Sound) new l.extent v free_after
      now (sound_still l f under)

  -- a sound locator into the extent stays sound, and names the same chunk
  pub filled_carries : Carries before after old new l
  filled_carries = record {
    names = λ n. record {
      names = record { in_use = free_after; pointer = v; has_pointer = now; chunk = names_below l (kept_below l f) v (no_lower l f) under.0 };
      has = payload_below l (kept_below l f) v (no_lower l f) under.0 ∙ same_payload before l w n.pointer under.0 n.chunk;
    };
    no_other = λ m. record { in_use = free_before; pointer = w; has_pointer = was; chunk = under.0 };
    own = λ s h.
        subst (λ (t : Status). HasStatusIn after new l t) ((one_in_plan before old l).one Sound s sound h) sound_after;
  }
