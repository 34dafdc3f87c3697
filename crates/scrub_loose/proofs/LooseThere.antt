-- Each image has its loose frames and its crowded extents.
use Rattle.std.proofs.Common.{◌≡◌, ◌⊎◌, ◌<◌, ◌+◌, ℕ, zero, suc, Bool, true, List, [], ◌∷◌, ◌++◌, length, arith, refl, subst, inl, inr}
use Rattle.std.specs.List.{AllPairs, Contains}
use Rattle.std.specs.List.Sorted.{IsStrictlyIncreasing}
use Rattle.std.proofs.lemmas.Bool.{cases_lt}
use Rattle.std.proofs.lemmas.List.Kept.{AllPairs-from_increasing}
use Rattle.std.proofs.lemmas.List.Elements.{Contains-push_cases}
use Rattle.sha2.specs.Sha256.{sha256}
use Rattle.scrub_disk.specs.Image.{Image, extent_bytes}
use Rattle.scrub_frame.specs.declared.form.Form.{Form}
use Rattle.scrub_super.specs.Plan.{IsPlan, PlanValue}
use Rattle.scrub_scan.specs.declared.standing.Standing.{Standing}
use Rattle.scrub_scan.specs.Extent.{Extent, FrameAt, NoFrameAt}
use Rattle.scrub_scan.proofs.Existing.{some_frame}
use Rattle.scrub_loose.specs.Anywhere.{whole_extent}
use Rattle.scrub_loose.specs.Loose.{AreLoose, LooseValue}
use Rattle.scrub_loose.specs.steps.Search.{AreFoundIn, AreFramesBefore, searched}
use Rattle.scrub_loose.proofs.Crowds.{decided_crowd}
use Rattle.scrub_loose.proofs.FoundFrames.{found_crowd, found_joined, found_none, found_outside, found_sparse, frames_more, frames_none, frames_same}
use Rattle.scrub_loose.proofs.SearchedExtents.{searched_all, searched_parts, searched_rise}

-- each frame is looked for
abbrev each : Standing → Bool
each s = true

-- the frames at the first bytes of an extent
some_frames : (x : Extent) (e n : ℕ) → (fs : List Standing) × AreFramesBefore each x e n fs
some_frames x e zero = ([], frames_none each x e)
some_frames x e (suc n) = by (some_frames x e n) (some_frame x n)
  where
    up : n + 1 ≡ suc n
    up = omega arith

    by : (fs : List Standing) × AreFramesBefore each x e n fs →
        ((f : Form) × (u : List ℕ) × (b : List ℕ) × FrameAt x n f u b) ⊎ NoFrameAt x n →
        (fs : List Standing) × AreFramesBefore each x e (suc n) fs
    by before (inl k) =
        let s : Standing = record { extent = e; offset = n; form = k.0; uuid = k.1; length = length k.2; digest = sha256 k.2 } in (
          before.0 ++ s ∷ [],
          subst (λ m. AreFramesBefore each x e m (before.0 ++ s ∷ [])) up
              (frames_more each x e n before.0 s before.1
              (record {
                in_extent = refl;
                at_place = refl;
                stands = record { payload = k.2; frame = k.3; length = refl; digest = refl };
              }) refl),
        )
    by before (inr none) = (
      before.0,
      subst (λ m. AreFramesBefore each x e m before.0) up
          (frames_same each x e n before.0 before.1
          (λ s h. absurd (none s.form s.uuid h.stands.payload (subst (λ p. FrameAt x p s.form s.uuid h.stands.payload) h.at_place h.stands.frame)))),
    )

-- what one extent has
some_found_at : (image : Image) (e : ℕ) → (v : LooseValue) × AreFoundIn each image (e ∷ []) v
some_found_at image e = elim (decided_crowd (whole_extent image e)) [
  | inl crowd ↦ (record { frames = []; crowded = e ∷ [] }, found_crowd each image e crowd)
  | inr sparse ↦ elim (cases_lt e image.geometry.extents) [
    | inl in_disk ↦
        let fs = some_frames (whole_extent image e) e (extent_bytes image.geometry) in
        (record { frames = fs.0; crowded = [] }, found_sparse each image e fs.0 sparse in_disk fs.1)
    | inr outside ↦ (record { frames = []; crowded = [] }, found_outside each image e sparse outside)
  ]
]

-- what extents have that ascend
some_found : (image : Image) (es : List ℕ) → AllPairs (λ a b. a < b) es → (v : LooseValue) × AreFoundIn each image es v
some_found image [] up = (record { frames = []; crowded = [] }, found_none each image)
some_found image (e ∷ es) up =
    let first = some_found_at image e in
    let rest = some_found image es (λ i j d lt here. up (suc i) (suc j) d (omega (arith, lt)) (omega (arith, here))) in (
      record { frames = first.0.frames ++ rest.0.frames; crowded = first.0.crowded ++ rest.0.crowded },
      found_joined each image (e ∷ []) es first.0 rest.0 first.1 rest.1 (λ d f among there. above d f among there),
    )
  where
    above : (d f : ℕ) → Contains (e ∷ []) d → Contains es f → d < f
    above d f among there = elim (Contains-push_cases [] e d among) [
      | inl none ↦ absurd (omega (arith, none.1))
      | inr is ↦ omega (arith, is, (rw there.2 at (up 0 (suc there.0) f (omega arith) (omega (arith, there.1)))))
    ]

-- what is found in the searched extents are the loose frames and the crowded extents
pub loose_of_found : (resets : List ℕ) (image : Image) (plan : PlanValue) (v : LooseValue) →
    AreFoundIn (λ s. true) image (searched resets plan.planned) v → AreLoose resets image plan v
loose_of_found resets image plan v h = record {
  frames_rise = h.frames_rise;
  frames = λ s. (
    λ there.
        let is = (h.frames s).0 there in
        let where_it_is = searched_parts resets plan.planned s.extent is.among in
        record { searched = record { in_use = where_it_is.0; stays = where_it_is.1 }; sparse = is.sparse; stands = is.stands },
    λ is.
        (h.frames s).1
        (record {
          among = searched_all resets plan.planned s.extent is.searched.in_use is.searched.stays;
          sparse = is.sparse;
          stands = is.stands;
          passes = refl;
        }),
  );
  crowded_rise = h.crowded_rise;
  crowded = λ e. (
    λ there.
        let is = (h.crowded e).0 there in
        let where_it_is = searched_parts resets plan.planned e is.0 in
        (record { in_use = where_it_is.0; stays = where_it_is.1 }, is.1),
    λ is. (h.crowded e).1 (searched_all resets plan.planned e is.0.in_use is.0.stays, is.1),
  );
}

-- extents that ascend have both
pub loose_there : (resets : List ℕ) (image : Image) (plan : PlanValue) → IsStrictlyIncreasing plan.planned →
    (v : LooseValue) × AreLoose resets image plan v
loose_there resets image plan rising =
    let found = some_found image (searched resets plan.planned)
    (AllPairs-from_increasing (searched resets plan.planned) (searched_rise resets plan.planned rising)) in
    (found.0, loose_of_found resets image plan found.0 found.1)

-- each plan has its loose frames and its crowded extents
pub some_loose : (resets : List ℕ) (image : Image) (plan : PlanValue) → IsPlan plan → (v : LooseValue) × AreLoose resets image plan v
some_loose resets image plan is = loose_there resets image plan is.extents.rising
