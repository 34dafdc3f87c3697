-- A manifest rests on the superblock that counts, but for its generation, and on the bytes below the write pointers of the
-- extents in use; its last words on all bytes of these.
use Rattle.std.proofs.Common.{◌≡◌, ◌≢◌, ◌≤◌, ◌-◌, ◌==◌, ◌&&◌, ℕ, zero, suc, not, Bool, true, false, Some, List, [], MatchBool, MatchOption, get_or, length, if◌then◌else◌, arith, refl, sym, ◌∙◌, ap, subst}
use Rattle.std.specs.Bool.{⊤}
use Rattle.std.proofs.Math.Path.{fun_ext}
use Rattle.std.specs.List.{All, AllZip, Contains, filter}
use Rattle.std.proofs.lemmas.List.Elements.{All-contains_itself}
use Rattle.list_facts.proofs.Bools.{false_from_not}
use Rattle.list_facts.proofs.Elements.{Contains-map}
use Rattle.list_facts.proofs.Filters.{Contains-filter_range, filter_range-passes}
use Rattle.scrub_disk.specs.Image.{Image, image_byte}
use Rattle.scrub_frame.specs.declared.locator.Locator.{Locator}
use Rattle.scrub_super.specs.Plan.{PlanValue, pointer_of}
use Rattle.scrub_super.specs.Planned.{is_in_use}
use Rattle.scrub_scan.specs.declared.standing.Standing.{Standing}
use Rattle.scrub_scan.specs.AllFindings.{extent_numbers}
use Rattle.scrub_scan.specs.Scanned.{Scanned}
use Rattle.scrub_check.specs.declared.statuses.checked.Checked.{Checked}
use Rattle.scrub_check.specs.declared.statuses.status.Status.TheVariants.{OutOfRange, Sound}
use Rattle.scrub_check.specs.Spares.{asks_for_spares, is_copy_of, spares_by, spares_of}
use Rattle.scrub_check.specs.Status.{HasStatus, HasStatusIn, HasStatusInRetired, is_retired}
use Rattle.scrub_check.specs.WholeScan.{IsWholeScan}
use Rattle.scrub_loose.specs.Loose.{AreLoose, IsSearched, LooseValue, best_among, best_of}
use Rattle.scrub_loose.proofs.OneLoose.{one_by_place}
use Rattle.scrub_found.specs.Scrubbed.{Scrubbed, IsScrubbed}
use Rattle.scrub_found.proofs.ResetPlans.{whole_but}
use Rattle.scrub_listings.specs.Manifest.{IsManifest, manifest_text}
use Rattle.scrub_reclaim.specs.Reset.{NameTheSame}
use Rattle.scrub_reclaim.specs.Same.{AreTheSameBelow, AreTheSameInUse, IsSameButLastWords}
use Rattle.scrub_reclaim.proofs.CarriedNames.{Carries, named_alike}
use Rattle.scrub_reclaim.proofs.LooseFrames.{carried_over}
use Rattle.scrub_reclaim.proofs.Reset.{plan_found, plan_in, same_text, same_verdict}
use Rattle.scrub_reclaim.proofs.ResetForms.{IsAlikeIn, along, same_after, same_form, same_frames}
use Rattle.scrub_reclaim.proofs.RisenTexts.{last_words_alone}
use Rattle.scrub_reclaim.proofs.SameExtents.{AreAlike, IsScannedBy, IsTheSame, alike_back, alike_items, carries, carries_in_retired, in_disk, same_numbers, scanned_by}

-- ---- the extents in use

from_one : (e : ℕ) → e ≢ 0 → 1 ≤ e
from_one zero none = absurd (none refl)
from_one (suc k) none = omega arith

module _ (image : Image) (found : Scrubbed) (x : IsScrubbed image found) where
  whole : IsWholeScan image found.plan found.all
  whole = whole_but [] found.choice found.plan image found.all x.choice x.plan x.all

  -- an extent with a write pointer that isn't retired is in use
  in_use : (e w : ℕ) → is_retired found.plan e ≡ false → pointer_of found.plan e ≡ Some w → Contains found.plan.planned e
  in_use e w unretired is =
      let there = in_disk image found.plan (plan_in image found x) e w is in
      let low : 1 ≤ e = from_one e there.0 in
      subst (λ (es : List ℕ). Contains es e) (sym whole.planned)
      (Contains-filter_range (is_in_use found.plan.retired) 1 (image.geometry.extents - 1) e low (omega (arith, low, there.1)) (ap not unretired))

  -- no scanned extent is retired
  unretired_scanned : All (λ (f : Scanned). is_retired found.plan f.extent ≡ false) found.all
  unretired_scanned i d below =
      let f : Scanned = get_or found.all i d in
      let there : Contains (extent_numbers found.all) f.extent = Contains-map (λ (g : Scanned). g.extent) found.all f (All-contains_itself found.all i d below) in
      let passes = filter_range-passes (is_in_use found.plan.retired) 1 (image.geometry.extents - 1) f.extent (subst (λ (es : List ℕ). Contains es f.extent) (x.all.extents ∙ whole.planned) there) in
      false_from_not (is_retired found.plan f.extent) passes.2

-- nor is the extent of a sound locator
unretired_sound : (image : Image) (plan : PlanValue) (l : Locator) → HasStatusIn image plan l Sound → is_retired plan l.extent ≡ false
unretired_sound image plan l h = by (is_retired plan l.extent) refl h
  where
    by : (b : Bool) → is_retired plan l.extent ≡ b →
        MatchBool b (HasStatusInRetired image l Sound) (MatchOption (pointer_of plan l.extent) (Sound ≡ OutOfRange) (λ w. HasStatus image w l Sound)) →
        is_retired plan l.extent ≡ false
    by true is h = absurd h
    by false is h = is

-- ---- the same bytes below the write pointers

module _ (before after : Image) (found rest : Scrubbed) (x : IsScrubbed before found) (y : IsScrubbed after rest)
    (a : AreTheSameBelow before after) where
  plan_is : a.plan ≡ found.plan
  plan_is = plan_found before found a.plan x a.planned.was

  same_plan : rest.plan ≡ found.plan
  same_plan = sym (plan_found after rest a.plan y a.planned.is) ∙ plan_is

  same_retired : rest.plan.retired ≡ found.plan.retired
  same_retired = ap (λ (p : PlanValue). p.retired) same_plan

  -- the same extents are scanned
  numbers : extent_numbers rest.all ≡ extent_numbers found.all
  numbers = same_numbers [] [] before after found rest a.planned.sizes same_retired x y

  -- an extent that isn't retired is the same
  the_same : (e : ℕ) → is_retired found.plan e ≡ false → IsTheSame before after found.plan rest.plan e
  the_same e unretired = record {
    sizes = a.planned.sizes;
    retired = same_retired;
    pointer = ap (λ (p : PlanValue). pointer_of p e) same_plan;
    bytes = λ w is p below.
        subst (λ (q : PlanValue). Contains q.planned e → pointer_of q e ≡ Some w → image_byte after e p ≡ image_byte before e p) plan_is
        (λ there at. a.bytes e w p there at below) (in_use before found x e w unretired is) is;
  }

  carry : All (λ (c : Checked). Carries before after found.plan rest.plan c.locator) found.checked
  carry i d below = by (is_retired found.plan l.extent) refl
    where
      l : Locator
      l = (get_or found.checked i d).locator

      by : (b : Bool) → is_retired found.plan l.extent ≡ b → Carries before after found.plan rest.plan l
      by true is = carries_in_retired l a.planned.sizes same_retired is
      by false is = carries l (the_same l.extent is)

  -- all scanned extents have the same items
  scans : AllZip (IsAlikeIn (λ e. ⊤)) found.all rest.all
  scans =
      along (λ (f : Scanned). IsScannedBy before found.plan f × (is_retired found.plan f.extent ≡ false)) (IsScannedBy after rest.plan) (IsAlikeIn (λ e. ⊤))
      (λ f g number p q. record {
        extent = number;
        items = λ known. alike_items before after found.plan rest.plan f g number p.0 q (the_same f.extent p.1);
      })
      found.all rest.all numbers
      (λ i d below. (scanned_by before found.plan found.all x.all i d below, unretired_scanned before found x i d below))
      (scanned_by after rest.plan rest.all y.all)

  -- the same is named
  pub named_below : NameTheSame found rest
  named_below =
      named_alike [] [] before after found rest x y (ap (λ (p : PlanValue). p.has_superblock) same_plan)
      (ap (λ (p : PlanValue). p.runs) same_plan) same_retired carry
      (λ i d below sound. same_form (get_or found.checked i d).locator (λ e. ⊤) found.all rest.all scans tt)

-- With the same bytes below the write pointers the manifest is the same, but for last words, and so is its verdict.
pub same_but_last_words : (before after : Image) (a b : List ℕ) (v w : Bool) → AreTheSameBelow before after → IsManifest before a v →
    IsManifest after b w → IsSameButLastWords a b × (v ≡ w)
same_but_last_words before after a b v w s x y =
    let same : NameTheSame x.found y.found = named_below before after x.found y.found x.scrubbed y.scrubbed s in (
      subst (λ (t : List ℕ). IsSameButLastWords t b) (sym x.text_is)
          (subst (λ (t : List ℕ). IsSameButLastWords (manifest_text x.found x.loose.frames) t) (sym y.text_is)
          (last_words_alone x.found y.found x.loose.frames y.loose.frames same)),
      x.verdict ∙ sym (same_verdict x.found y.found same) ∙ sym y.verdict,
    )

-- ---- the same bytes in all extents in use

module _ (before after : Image) (found rest : Scrubbed) (x : IsScrubbed before found) (y : IsScrubbed after rest) (loose others : LooseValue)
    (l : AreLoose [] before found.plan loose) (m : AreLoose [] after rest.plan others) (a : AreTheSameInUse before after) where
  abbrev below_too : AreTheSameBelow before after
  below_too = record { plan = a.plan; planned = a.planned; bytes = λ e w p there at below. a.bytes e p there }

  planned : rest.plan ≡ found.plan
  planned = same_plan before after found rest x y below_too

  alike : (e : ℕ) → Contains found.plan.planned e → AreAlike before after e
  alike e there = record {
    sizes = a.planned.sizes;
    bytes = fun_ext (λ p. a.bytes e p (subst (λ (q : PlanValue). Contains q.planned e) (sym (plan_is before after found rest x y below_too)) there));
  }

  searched_too : {p q : PlanValue} → q ≡ p → (e : ℕ) → IsSearched [] p e → IsSearched [] q e
  searched_too same e s = record { in_use = subst (λ (r : PlanValue). Contains r.planned e) (sym same) s.in_use; stays = s.stays }

  -- the same frames are loose
  same_loose : others.frames ≡ loose.frames
  same_loose =
      one_by_place others.frames loose.frames m.frames_rise l.frames_rise
      (λ s there.
      let now : IsSearched [] rest.plan s.extent = ((m.frames s).0 there).searched in
      carried_over [] [] rest.plan found.plan s (alike_back (alike s.extent (searched_too (sym planned) s.extent now).in_use)) others loose m l
      (searched_too (sym planned) s.extent) there)
      (λ s there.
      carried_over [] [] found.plan rest.plan s (alike s.extent ((l.frames s).0 there).searched.in_use) loose others l m
      (searched_too planned s.extent) there)

  same_spares : (c : Checked) → spares_of rest.all c ≡ spares_of found.all c
  same_spares c =
      ap (λ (fs : List Standing). spares_by fs c) (same_frames found.all rest.all (scans before after found rest x y below_too))

  -- so each locator has the same best copy
  same_best : (c : Checked) → best_of rest.all others.frames c ≡ best_of found.all loose.frames c
  same_best c = λ i.
      best_among (same_spares c i)
      (if asks_for_spares c && length (same_spares c i) == 0 then filter (is_copy_of c.locator) (same_loose i) else [])

  pub text_in_use : manifest_text rest others.frames ≡ manifest_text found loose.frames
  text_in_use =
      let same : NameTheSame found rest = named_below before after found rest x y below_too in
      same_text found rest loose.frames others.frames same
      (λ i d below.
      same_after found.all rest.all loose.frames others.frames (get_or found.checked i d) (same.forms i d below) (same_best (get_or found.checked i d)))

-- With the same bytes in all extents in use the manifest is the same, and so is its verdict.
pub same_manifest : (before after : Image) (a b : List ℕ) (v w : Bool) → AreTheSameInUse before after → IsManifest before a v →
    IsManifest after b w → (b ≡ a) × (v ≡ w)
same_manifest before after a b v w s x y = (
  y.text_is
      ∙ text_in_use before after x.found y.found x.scrubbed y.scrubbed x.loose y.loose x.are_loose y.are_loose s
      ∙ sym x.text_is,
  (same_but_last_words before after a b v w
      (below_too before after x.found y.found x.scrubbed y.scrubbed x.loose y.loose x.are_loose y.are_loose s) x y).1,
)
