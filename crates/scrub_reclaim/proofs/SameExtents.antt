-- What is found in an extent is the same on two images with the same bytes and the same pointer there.
use Rattle.std.proofs.Common.{◌≡◌, ◌≢◌, ◌==◌, ◌<◌, ◌≤◌, ◌*◌, ◌-◌, ℕ, zero, suc, if◌then◌else◌, Bool, true, false, Option, Some, None, IfSome, MatchBool, MatchOption, List, [], ◌∷◌, length, arith, refl, sym, ◌∙◌, ap, subst}
use Rattle.std.specs.List.{All, AllZip, Contains, list_any, slice_get}
use Rattle.std.proofs.lemmas.Bool.{false≢true}
use Rattle.std.proofs.lemmas.List.{length-replicate}
use Rattle.std.proofs.lemmas.Option.{same_Some, slice_get_within}
use Rattle.std.proofs.lemmas.Grind.{common_steps}
use Rattle.std.proofs.lemmas.List.Elements.{All-contains, All-head}
use Rattle.scrub_disk.specs.declared.geometry.Geometry.{Geometry}
use Rattle.scrub_disk.specs.Image.{Image, image_byte}
use Rattle.scrub_frame.specs.declared.locator.Locator.{Locator}
use Rattle.scrub_super.specs.Contents.{Contents}
use Rattle.scrub_super.specs.Plan.{PlanValue, pointer_of}
use Rattle.scrub_super.specs.steps.PlanParts.{IsPlanBy, IsPlanWithout}
use Rattle.scrub_super.proofs.PlanParts.{plan_parts}
use Rattle.scrub_super.specs.Planned.{ArePlanned, extents_in_use}
use Rattle.scrub_super.proofs.Plans.{in_use_planned}
use Rattle.scrub_super.specs.Record.{AreContents}
use Rattle.scrub_super.proofs.NewestRecords.{superblock_fits}
use Rattle.scrub_scan.specs.declared.item.Item.{Item}
use Rattle.scrub_scan.specs.AllFindings.{AreAllFindings, extent_numbers}
use Rattle.scrub_scan.specs.Extent.{Extent, extent_of}
use Rattle.scrub_scan.specs.Findings.{IsFindings}
use Rattle.scrub_scan.specs.Item.{IsItem}
use Rattle.scrub_scan.specs.Scanned.{Scanned}
use Rattle.scrub_scan.specs.Tiling.{IsTiling}
use Rattle.scrub_scan.proofs.Tilings.{one_tiling}
use Rattle.scrub_check.specs.declared.statuses.checked.Checked.{Checked}
use Rattle.scrub_check.specs.declared.statuses.status.Status.{Status}
use Rattle.scrub_check.specs.declared.statuses.status.Status.TheVariants.{OutOfRange, Sound}
use Rattle.scrub_check.specs.ChunkForms.{form_at}
use Rattle.scrub_check.specs.Runs.{NamesChunkIn}
use Rattle.scrub_check.specs.Status.{HasStatus, HasStatusIn, HasStatusInRetired, is_retired}
use Rattle.scrub_check.specs.WholeScan.{IsWholeScan}
use Rattle.scrub_found.specs.Resets.{IsScrubbedBut}
use Rattle.scrub_found.specs.Scrubbed.{Scrubbed}
use Rattle.scrub_found.proofs.ResetPlans.{whole_but}
use Rattle.scrub_reclaim.specs.Reset.{IsPlanIn}
use Rattle.scrub_reclaim.proofs.CarriedNames.{Carries, NamesPayload}
use Rattle.scrub_reclaim.proofs.ResetForms.{IsAlikeIn, along}
use Rattle.scrub_reclaim.proofs.SameBelow.{AreSameBelow, names_below, payload_below, status_below, status_in_retired, tiling_below}

-- ---- what rests on one extent alone

-- two images have the same sizes, and the same bytes in extent e
pub record AreAlike (image other : Image) (e : ℕ) : Type 0 where
  pub sizes : other.geometry ≡ image.geometry
  pub bytes : image_byte other e ≡ image_byte image e

-- and so the other way round
pub alike_back : {image other : Image} {e : ℕ} → AreAlike image other e → AreAlike other image e
alike_back a = record { sizes = sym a.sizes; bytes = sym a.bytes }

-- Such an extent is the same under each pointer.
pub same_extent : {image other : Image} {e : ℕ} (w : ℕ) → AreAlike image other e → extent_of image e w ≡ extent_of other e w
same_extent w a = λ i. record { byte = sym a.bytes i; page = (sym a.sizes i).page; pointer = w }

-- ---- what rests on one extent of a plan

-- Extent 0 has no write pointer.
pub no_pointer : (plan : PlanValue) (w : ℕ) → pointer_of plan 0 ≡ Some w → ⊥
no_pointer plan w e = none e
  where
    none : None ≡ Some w → ⊥
    none h = cc

-- the pointer of an extent but 0
pub pointer_behind : (plan : PlanValue) (k : ℕ) → pointer_of plan (suc k) ≡ slice_get plan.pointers k
pointer_behind plan k =
    ap (λ (b : Bool). if b then None else slice_get plan.pointers (suc k - 1)) (not_zero k)
    ∙ ap (slice_get plan.pointers) (let e : suc k - 1 ≡ k = omega arith in e)
  where
    not_zero : (n : ℕ) → (suc n == 0) ≡ false
    not_zero n = grind (arith, common_steps)

-- a plan has a write pointer for each extent but extent 0
pub how_many : (image : Image) (plan : PlanValue) → IsPlanIn image plan → length plan.pointers ≡ image.geometry.extents - 1
how_many image plan x = by x.choice.superblock (superblock_fits x.chosen) (plan_parts x.choice plan x.follows).by
  where
    by : (s : Option Contents) → IfSome s (AreContents image.geometry) →
        MatchOption s (IsPlanWithout plan x.choice.geometry) (IsPlanBy plan) →
        length plan.pointers ≡ image.geometry.extents - 1
    by None fits without =
        ap (λ (ws : List ℕ). length ws) without.pointers
        ∙ length-replicate (x.choice.geometry.extents - 1) (x.choice.geometry.page * x.choice.geometry.pages)
        ∙ ap (λ (g : Geometry). g.extents - 1) x.chosen.geometry
    by (Some c) fits is =
        let count : length plan.pointers ≡ length c.pointers = ap (λ (ws : List ℕ). length ws) is.pointers in
        omega (arith, count, fits.pointer_count)

-- what has a write pointer is an extent of the disk, and not extent 0
pub in_disk : (image : Image) (plan : PlanValue) → IsPlanIn image plan → (e w : ℕ) → pointer_of plan e ≡ Some w →
    (e ≢ 0) × (e < image.geometry.extents)
in_disk image plan x zero w is = absurd (no_pointer plan w is)
in_disk image plan x (suc k) w is = (
  λ none. omega (arith, none),
  omega (arith, how_many image plan x, slice_get_within plan.pointers k w (sym (pointer_behind plan k) ∙ is)),
)

-- extent e is the same by two plans of two images: it is retired in both or in neither, has the same write pointer, and
-- the same bytes below it
pub record IsTheSame (image other : Image) (old new : PlanValue) (e : ℕ) : Type 0 where
  pub sizes : other.geometry ≡ image.geometry
  pub retired : new.retired ≡ old.retired
  pub pointer : pointer_of new e ≡ pointer_of old e
  pub bytes : (w : ℕ) → pointer_of old e ≡ Some w → (p : ℕ) → p < w → image_byte other e p ≡ image_byte image e p

same_below : {image other : Image} {old new : PlanValue} {e : ℕ} → IsTheSame image other old new e → (w : ℕ) →
    pointer_of old e ≡ Some w → AreSameBelow image other e w
same_below t w is = record { sizes = t.sizes; bytes = t.bytes w is }

-- and so the other way round
same_back : {image other : Image} {old new : PlanValue} {e : ℕ} → IsTheSame image other old new e →
    IsTheSame other image new old e
same_back t = record {
  sizes = sym t.sizes;
  retired = sym t.retired;
  pointer = sym t.pointer;
  bytes = λ w is p below. sym (t.bytes w (sym t.pointer ∙ is) p below);
}

-- a locator into it names the same chunk, if any
names_in : {image other : Image} {old new : PlanValue} (l : Locator) → IsTheSame image other old new l.extent →
    (n : NamesChunkIn image old l) → NamesPayload other new l n.chunk.payload
names_in l t n = record {
  names = record {
    in_use = ap (λ (rs : List ℕ). list_any (λ r. r == l.extent) rs) t.retired ∙ n.in_use;
    pointer = n.pointer;
    has_pointer = t.pointer ∙ n.has_pointer;
    chunk = names_below l (same_below t n.pointer n.has_pointer) n.pointer (omega arith) n.chunk;
  };
  has = payload_below l (same_below t n.pointer n.has_pointer) n.pointer (omega arith) n.chunk;
}

module _ {image other : Image} {old new : PlanValue} (l : Locator) (t : IsTheSame image other old new l.extent) where
  -- what the status says if the extent is retired or not, and has this pointer or none
  abbrev Says : Status → Bool → Option ℕ → Type 0
  Says s b o = MatchBool b (HasStatusInRetired other l s) (MatchOption o (s ≡ OutOfRange) (λ w. HasStatus other w l s))

  status_in : (s : Status) → HasStatusIn image old l s → HasStatusIn other new l s
  status_in s h =
      subst (λ (rs : List ℕ). Says s (list_any (λ r. r == l.extent) rs) (pointer_of new l.extent)) (sym t.retired)
      (subst (λ (o : Option ℕ). Says s (is_retired old l.extent) o) (sym t.pointer) (by (is_retired old l.extent) (pointer_of old l.extent) refl h))
    where
      by : (b : Bool) (o : Option ℕ) → pointer_of old l.extent ≡ o →
          MatchBool b (HasStatusInRetired image l s) (MatchOption o (s ≡ OutOfRange) (λ w. HasStatus image w l s)) → Says s b o
      by true o is h = status_in_retired image other l t.sizes s h
      by false None is h = h
      by false (Some w) is h = status_below l (same_below t w is) s h

  -- A locator into an extent that is the same names the same chunk, if any, and has the same status.
  pub carries : Carries image other old new l
  carries = record { names = names_in l t; no_other = λ m. (names_in l (same_back t) m).names; own = status_in }

-- A locator into a retired extent names no chunk, and has the same status whatever the extent holds.
pub carries_in_retired : {image other : Image} {old new : PlanValue} (l : Locator) → other.geometry ≡ image.geometry →
    new.retired ≡ old.retired → is_retired old l.extent ≡ true → Carries image other old new l
carries_in_retired {image} {other} {old} {new} l sizes retired was = record {
  names = λ n. absurd (false≢true (sym n.in_use ∙ was));
  no_other = λ m. absurd (false≢true (sym m.in_use ∙ is));
  own = own;
}
  where
    is : is_retired new l.extent ≡ true
    is = ap (λ (rs : List ℕ). list_any (λ r. r == l.extent) rs) retired ∙ was

    -- what a status says in an extent that is retired or not
    Says : Image → PlanValue → Status → Bool → Type 0
    Says i plan s b =
        MatchBool b (HasStatusInRetired i l s) (MatchOption (pointer_of plan l.extent) (s ≡ OutOfRange) (λ w. HasStatus i w l s))

    own : (s : Status) → HasStatusIn image old l s → HasStatusIn other new l s
    own s h =
        subst (Says other new s) (sym is) (status_in_retired image other l sizes s (subst (Says image old s) was h))

-- ---- scans

-- there is nothing below the pointer 0
pub no_items : (x : Extent) (items : List Item) → x.pointer ≡ 0 → IsTiling x items → items ≡ []
no_items x [] none t = refl
no_items x (item ∷ items) none t =
    let one : IsItem x item = All-head (IsItem x) item items t.each in absurd (omega (arith, one.below, none))

-- an extent that is the same has the same items
same_items : (image other : Image) (old new : PlanValue) (e w v : ℕ) (is js : List Item) → IsTheSame image other old new e →
    pointer_of old e ≡ Some w → pointer_of new e ≡ Some v → IsTiling (extent_of image e w) is → IsTiling (extent_of other e v) js → js ≡ is
same_items image other old new e w v is js t pw pv x y =
    one_tiling (extent_of other e w) js is (omega (arith, other.geometry.page_least))
    (subst (λ (p : ℕ). IsTiling (extent_of other e p) js) (same_Some v w (sym pv ∙ t.pointer ∙ pw)) y) (tiling_below (same_below t w pw) is x)

-- what is known of a scanned extent by its plan
abbrev pub IsScannedBy : Image → PlanValue → Scanned → Type 0
IsScannedBy image plan f = (pointer_of plan f.extent ≡ Some f.pointer) × IsFindings image f.extent f.pointer f.findings

-- Each extent of a scan has the write pointer that the plan gives it, and what is found under it.
pub scanned_by : (image : Image) (plan : PlanValue) (fs : List Scanned) → AreAllFindings image plan fs → All (IsScannedBy image plan) fs
scanned_by image plan fs x i d below = (x.pointers i d below, x.findings i d below)

-- A scanned extent that is the same has the same items in both scans.
pub alike_items : (image other : Image) (old new : PlanValue) (f g : Scanned) → g.extent ≡ f.extent → IsScannedBy image old f →
    IsScannedBy other new g → IsTheSame image other old new f.extent → g.findings.items ≡ f.findings.items
alike_items image other old new f g number p q t =
    same_items image other old new f.extent f.pointer g.pointer f.findings.items g.findings.items t p.0
    (subst (λ (e : ℕ). pointer_of new e ≡ Some g.pointer) number q.0) p.1.tiled
    (subst (λ (e : ℕ). IsTiling (extent_of other e g.pointer) g.findings.items) number q.1.tiled)

-- two scans have the same items in the extents that are the same
pub scans_alike : (image other : Image) (old new : PlanValue) (K : ℕ → Type 0) → ((e : ℕ) → K e → IsTheSame image other old new e) →
    (fs gs : List Scanned) → extent_numbers gs ≡ extent_numbers fs → AreAllFindings image old fs → AreAllFindings other new gs →
    AllZip (IsAlikeIn K) fs gs
scans_alike image other old new K same fs gs numbers x y =
    along (IsScannedBy image old) (IsScannedBy other new) (IsAlikeIn K)
    (λ f g number p q. record { extent = number; items = λ known. alike_items image other old new f g number p q (same f.extent known) })
    fs gs numbers (scanned_by image old fs x) (scanned_by other new gs y)

-- The same extents are planned, with resets or without.
pub same_planned : (resets others : List ℕ) (image other : Image) (s t : Scrubbed) → other.geometry ≡ image.geometry →
    t.plan.retired ≡ s.plan.retired → IsScrubbedBut resets image s → IsScrubbedBut others other t → t.plan.planned ≡ s.plan.planned
same_planned resets others image other s t sizes retired x y =
    let old : IsWholeScan image s.plan s.all = whole_but resets s.choice s.plan image s.all x.choice x.plan x.all in
    let new : IsWholeScan other t.plan t.all = whole_but others t.choice t.plan other t.all y.choice y.plan y.all in
    new.planned
    ∙ ap (λ (g : Geometry). extents_in_use g.extents t.plan.retired) sizes
    ∙ ap (extents_in_use image.geometry.extents) retired
    ∙ sym old.planned

-- the same extents are scanned
pub same_numbers : (resets others : List ℕ) (image other : Image) (s t : Scrubbed) → other.geometry ≡ image.geometry →
    t.plan.retired ≡ s.plan.retired → IsScrubbedBut resets image s → IsScrubbedBut others other t → extent_numbers t.all ≡ extent_numbers s.all
same_numbers resets others image other s t sizes retired x y =
    y.all.extents ∙ same_planned resets others image other s t sizes retired x y ∙ sym x.all.extents

-- a planned extent is one of the disk, and not extent 0
pub planned_there : (resets : List ℕ) (image : Image) (s : Scrubbed) → IsScrubbedBut resets image s → (e : ℕ) → Contains s.plan.planned e →
    (e ≢ 0) × (e < image.geometry.extents)
planned_there resets image s x e there =
    let whole : IsWholeScan image s.plan s.all = whole_but resets s.choice s.plan image s.all x.choice x.plan x.all in
    let are : ArePlanned image.geometry.extents (extents_in_use image.geometry.extents s.plan.retired) =
    in_use_planned image.geometry.extents s.plan.retired in
    let in_use : Contains (extents_in_use image.geometry.extents s.plan.retired) e = subst (λ (ns : List ℕ). Contains ns e) whole.planned there in
    let from_one : 1 ≤ e = All-contains (λ n. 1 ≤ n) (extents_in_use image.geometry.extents s.plan.retired) e are.from_one in_use in (
      λ none. omega (arith, none, from_one),
      All-contains (λ n. n < image.geometry.extents) (extents_in_use image.geometry.extents s.plan.retired) e are.below in_use,
    )

-- the chunks to which sound locators point have the same form
abbrev pub HaveTheSameForms : Scrubbed → Scrubbed → Type 0
HaveTheSameForms s t = All (λ (c : Checked). c.status ≡ Sound → form_at t.all c.locator ≡ form_at s.all c.locator) s.checked
