-- Places that have to be read, and the locators that point to them.
use Rattle.std.proofs.Common.{◌≡◌, ◌<◌, ℕ, List, [], ◌∷◌, ◌++◌, Option, Some, None, IfSome, IfNone, IfOk, Result, Ok, Err, is_some, All, set, length, get_or, arith, sym, ◌∙◌, ap, false}
use Rattle.std.specs.List.{AllZip, flat_map}
use Rattle.std.proofs.lemmas.Slice.Zip.{AllZip-long}
use Rattle.std.proofs.lemmas.List.{get_or_default}
use Rattle.std.proofs.lemmas.List.Elements.{All-push}
use Rattle.std.proofs.lemmas.Option.{same_Some}
use Rattle.list_facts.proofs.Zips.{AllZip-at, AllZip-set}
use Rattle.scrub_disk.specs.Image.{Image}
use Rattle.scrub_frame.specs.declared.locator.Locator.{Locator}
use Rattle.scrub_super.specs.Plan.{PlanValue, pointer_of}
use Rattle.scrub_merge.specs.Binding.{BindingValue}
use Rattle.scrub_scan.specs.declared.standing.Standing.{Standing}
use Rattle.scrub_scan.specs.Extent.{extent_of, NoFrameAt}
use Rattle.scrub_scan.specs.Standing.{IsStandingAt}
use Rattle.scrub_check.specs.declared.places.chunk_at.ChunkAt.{ChunkAt}
use Rattle.scrub_check.specs.declared.named.Named.{Named}
use Rattle.scrub_check.specs.declared.statuses.by_place.OpenLocator.{OpenLocator}
use Rattle.scrub_check.specs.declared.statuses.status.Status.{Status}
use Rattle.scrub_check.specs.steps.Open.{IsKnownBefore}
use Rattle.scrub_check.specs.Status.{HasStatusIn}
use Rattle.scrub_check.specs.steps.Places.{place_named_by}
use Rattle.scrub_check.specs.steps.Open.{CanBeRead, IsFoundAt, IsSeenAt, IsOpen, IsOpenAt}
use Rattle.scrub_check.specs.Named.{named_by_shard, named_locators}
use Rattle.scrub_check.specs.Runs.{AreRunStatuses}
use Rattle.scrub_check.proofs.CheckedLists.{known_at}
use Rattle.scrub_check.proofs.NamedLists.{run_at}

-- the place of an open locator can be read
pub can_be_read : (image : Image) (plan : PlanValue) (l : Locator) → plan.geometry ≡ image.geometry → IsOpen image plan l →
    CanBeRead image plan (place_named_by l)
can_be_read image plan l geometry left = record {
  geometry = geometry;
  from_one = left.can.in_range.from_one;
  in_disk = left.can.in_range.in_disk;
  in_extent = omega (arith, left.can.in_range.in_extent);
  in_use = left.in_use;
}

-- what is found under the plan's pointer is what is there
found_at : (image : Image) (e p v w : ℕ) (found : Option Standing) → v ≡ w → IfSome found (IsStandingAt image v e p) →
    IfNone found (NoFrameAt (extent_of image e v) p) → IsFoundAt image w e p found
found_at image e p v w (Some s) same some none = rw same at some
found_at image e p v w None same some none = rw same at none

-- what was found at a place under the plan's pointer is seen there
pub frame_seen : {E : Type 0} (image : Image) (plan : PlanValue) (s : ChunkAt) (v : ℕ) (r : Result (Option Standing) E) →
    pointer_of plan s.extent ≡ Some v →
    IfOk r (λ found. IfSome found (IsStandingAt image v s.extent s.offset)) →
    IfOk r (λ found. IfNone found (NoFrameAt (extent_of image s.extent v) s.offset)) → IfOk r (IsSeenAt image plan s)
frame_seen image plan s v (Ok found) at some none = λ w is.
    found_at image s.extent s.offset v w found (same_Some v w (sym at ∙ is)) some none
frame_seen image plan s v (Err e) at some none = tt

-- nothing is known of it
left_open : (image : Image) (plan : PlanValue) (n : Named) (t : Option Status) → is_some t ≡ false →
    IsKnownBefore image plan n t → IsOpen image plan n.locator
left_open image plan n None none known = known
left_open image plan n (Some s) none known = absurd (cc)

-- one more open locator
pub open_more : (names : List Named) (tells : List (Option Status)) (i : ℕ) (n : Named) (t : Option Status) (p : ChunkAt) (os more : List OpenLocator) →
    i < length names → n ≡ get_or names i n → t ≡ get_or tells i t → is_some t ≡ false → p ≡ place_named_by n.locator →
    more ≡ os ++ record { place = p; index = i } ∷ [] →
    ((image : Image) (plan : PlanValue) → AllZip (IsKnownBefore image plan) names tells → All (IsOpenAt image plan names) os) →
    (image : Image) (plan : PlanValue) → AllZip (IsKnownBefore image plan) names tells → All (IsOpenAt image plan names) more
open_more names tells i n t p os more below name_is tell_is none there grown before image plan known =
    let same : (d : Named) → n ≡ get_or names i d = λ d. name_is ∙ get_or_default names i n d below in
    let left = left_open image plan n t none (known_at image plan names tells i n t below name_is tell_is known) in
    rw grown
    (All-push (IsOpenAt image plan names) os (record { place = p; index = i }) (before image plan known) (record {
      below = below;
      left = λ d. rw (same d) at left;
      place = λ d. there ∙ ap (λ (m : Named). place_named_by m.locator) (same d);
    }))

-- the place of one of them can be read
pub left_can_be_read : (image : Image) (plan : PlanValue) (names : List Named) (o : OpenLocator) → plan.geometry ≡ image.geometry →
    IsOpenAt image plan names o → CanBeRead image plan o.place
left_can_be_read image plan [] o geometry at = absurd (omega (arith, at.below))
left_can_be_read image plan (n ∷ ns) o geometry at =
    rw (at.place n) (can_be_read image plan (get_or (n ∷ ns) o.index n).locator geometry (at.left n))

-- the status of a run is put to the others
pub run_known : (image : Image) (plan : PlanValue) (map : List BindingValue) (statuses : List Status) (tells : List (Option Status)) (i : ℕ) (d : Status) →
    i < length statuses → AreRunStatuses image plan statuses → AllZip (IsKnownBefore image plan) (named_locators plan.runs map) tells →
    AllZip (IsKnownBefore image plan) (named_locators plan.runs map) (set tells i (Some (get_or statuses i d)))
run_known image plan map statuses tells i d below are known =
    let runs : i < length plan.runs = omega (arith, below, AllZip-long (HasStatusIn image plan) plan.runs statuses are) in
    let at : (n : Named) → HasStatusIn image plan (get_or (named_locators plan.runs map) i n).locator (get_or statuses i d) =
    λ n. rw (run_at plan.runs (flat_map named_by_shard map) 0 i n n.locator runs)
    (AllZip-at (HasStatusIn image plan) plan.runs statuses i n.locator d runs are) in
    AllZip-set (IsKnownBefore image plan) (named_locators plan.runs map) tells i (Some (get_or statuses i d)) at known
