-- Each extent has its outer frames, and each disk its index runs; and the run at a place. Throughout, x is an extent, and e its
-- number.
use Rattle.std.proofs.Common.{◌≡◌, ◌<◌, ◌≤◌, ◌+◌, ◌-◌, ℕ, zero, suc, List, [], ◌∷◌, ◌++◌, length, get_or, arith, refl, sym, ◌∙◌, ap, subst, inl, inr}
use Rattle.std.specs.List.{All, AllPairs, Contains, range_with_len}
use Rattle.std.proofs.lemmas.Bool.{cases_lt}
use Rattle.std.proofs.lemmas.List.Elements.{Contains-get_or}
use Rattle.std.proofs.lemmas.List.FromFn.{get_or-range_with_len, length-range_with_len}
use Rattle.list_facts.proofs.Decisions.{decided_less, some_element}
use Rattle.sha2.specs.Sha256.{sha256}
use Rattle.sha2.proofs.Facts256.{length-sha256}
use Rattle.scrub_disk.specs.Image.{Image, extent_bytes}
use Rattle.scrub_frame.specs.declared.form.Form.{Form}
use Rattle.scrub_frame.specs.declared.locator.Locator.{Locator}
use Rattle.scrub_frame.specs.Locator.{IsLocator}
use Rattle.scrub_run.specs.Entry.{EntryValue}
use Rattle.scrub_run.specs.Run.{IsRun}
use Rattle.scrub_run.proofs.RunsThere.{some_run}
use Rattle.scrub_scan.specs.declared.standing.Standing.{Standing}
use Rattle.scrub_scan.specs.Extent.{Extent, FrameAt, NoFrameAt}
use Rattle.scrub_scan.specs.steps.OneFrame.{one_frame_at}
use Rattle.scrub_scan.proofs.Existing.{some_frame}
use Rattle.scrub_loose.specs.Anywhere.{whole_extent}
use Rattle.scrub_loose.specs.declared.outer.FoundRun.{FoundRun}
use Rattle.scrub_loose.specs.Outer.{AreFoundRuns, AreOuterFrames, IsFoundRun, IsRunFrame, IsRunThere, frame_end, locator_of}
use Rattle.scrub_loose.specs.steps.Search.{IsFrameHere, IsFrameIn}
use Rattle.scrub_loose.specs.steps.Walk.{AreExtentsBut, AreOuterBefore, AreRunsAmong, AreRunsIn, IsRunFrameIn}
use Rattle.scrub_loose.proofs.FoundFrames.{frame_here, none_here}
use Rattle.scrub_loose.proofs.OuterFrames.{only, outer_none, outer_of_extent, outer_outside, outer_push, outer_same, outer_skip, some_bytes}
use Rattle.scrub_loose.proofs.RunsFound.{among_more, among_none, among_same, run_here, run_of, runs_joined, runs_nowhere, runs_of_all, runs_of_extent}

-- ---- in an extent

-- the outer frames in front of a place, and the runs among them
record Before (x : Extent) (e n : ℕ) : Type 0 where
  frames : List Standing
  outer : AreOuterBefore x e n frames
  found : List FoundRun
  runs : AreRunsAmong x frames found

module _ (x : Extent) (e n : ℕ) (b : Before x e n) where
  up : n + 1 ≡ suc n
  up = omega arith

  -- one byte more, without a frame
  no_frame : NoFrameAt x n → Before x e (suc n)
  no_frame none = record {
    frames = b.frames;
    outer = subst (λ m. AreOuterBefore x e m b.frames) up (outer_same x e n b.frames b.outer (λ s here. none_here x e n s none here));
    found = b.found;
    runs = b.runs;
  }

  -- or within one
  within : (s : Standing) → Contains b.frames s → n < frame_end s → Before x e (suc n)
  within s there over = record {
    frames = b.frames;
    outer = outer_skip x e n (suc n) b.frames s b.outer there (omega arith) (omega (arith, over));
    found = b.found;
    runs = b.runs;
  }

  -- or with one
  module _ (ends : All (λ t. frame_end t ≤ n) b.frames) (f : Form) (u payload : List ℕ) (frame : FrameAt x n f u payload) where
    abbrev s : Standing
    s = record { extent = e; offset = n; form = f; uuid = u; length = length payload; digest = sha256 payload }

    here : IsFrameHere x e n s
    here = record {
      in_extent = refl;
      at_place = refl;
      stands = record { payload = payload; frame = frame; length = refl; digest = refl };
    }

    outer : AreOuterBefore x e (suc n) (b.frames ++ s ∷ [])
    outer = subst (λ m. AreOuterBefore x e m (b.frames ++ s ∷ [])) up (outer_push x e n b.frames s b.outer ends here)

    with_run : (es : List EntryValue) → IsRun payload es → Before x e (suc n)
    with_run es is =
        let r : FoundRun = record { frame = s; entries = length es } in
        let run : IsRunFrameIn x s (length es) = record { payload = payload; frame = frame; entries = es; run = is; counted = refl } in
        record {
          frames = b.frames ++ s ∷ [];
          outer = outer;
          found = b.found ++ r ∷ [];
          runs = among_more x e n b.frames b.found s r b.runs b.outer.are here refl run;
        }

    without_run : ((es : List EntryValue) → IsRun payload es → ⊥) → Before x e (suc n)
    without_run none = record {
      frames = b.frames ++ s ∷ [];
      outer = outer;
      found = b.found;
      runs =
          among_same x b.frames b.found s b.runs
          (λ c is.
          none is.entries (subst (λ (p : List ℕ). IsRun p is.entries) (one_frame_at x n f u is.payload f u payload is.frame frame).2 is.run));
    }

    one_frame : Before x e (suc n)
    one_frame = elim (some_run payload) [ inl is ↦ with_run is.0 is.1 | inr none ↦ without_run none ]

  one_more : Before x e (suc n)
  one_more = elim (some_element (λ (s : Standing). n < frame_end s) (λ s. decided_less n (frame_end s)) b.frames) [
    | inl over ↦ within over.0 over.1 over.2
    | inr none ↦ elim (some_frame x n) [
      | inl k ↦
          one_frame
          (λ i d low. elim (cases_lt n (frame_end (get_or b.frames i d))) [
            | inl over ↦ absurd (none (get_or b.frames i d) (Contains-get_or b.frames i d low) over)
            | inr le ↦ le
          ])
          k.0 k.1 k.2 k.3
      | inr none_here ↦ no_frame none_here
    ]
  ]

some_before : (x : Extent) (e n : ℕ) → Before x e n
some_before x e zero = record { frames = []; outer = outer_none x e; found = []; runs = among_none x }
some_before x e (suc n) = one_more x e n (some_before x e n)

-- ---- in an image

module _ (image : Image) where
  abbrev all_before : (e : ℕ) → Before (whole_extent image e) e (extent_bytes image.geometry)
  all_before e = some_before (whole_extent image e) e (extent_bytes image.geometry)

  -- each extent has a list of outer frames
  pub some_outer : (e : ℕ) → (fs : List Standing) × AreOuterFrames image e fs
  some_outer e = elim (cases_lt e image.geometry.extents) [
    | inl in_disk ↦ ((all_before e).frames, outer_of_extent image e (all_before e).frames in_disk (all_before e).outer)
    | inr outside ↦ ([], outer_outside image e outside)
  ]

  -- extents of the disk that ascend have runs
  some_runs_in : (es : List ℕ) → AllPairs (λ a b. a < b) es → All (λ e. e < image.geometry.extents) es →
      (rs : List FoundRun) × AreRunsIn image es rs
  some_runs_in [] up within = ([], runs_nowhere image)
  some_runs_in (e ∷ es) up within =
      let b = all_before e in
      let first = runs_of_extent image e b.frames b.found (within 0 e (omega arith)) b.outer b.runs in
      let rest =
      some_runs_in es (λ i j d lt here. up (suc i) (suc j) d (omega (arith, lt)) (omega (arith, here)))
      (λ k d low. within (suc k) d (omega (arith, low))) in
      (b.found ++ rest.0, runs_joined image (e ∷ []) es b.found rest.0 first rest.1 above)
    where
      above : (d f : ℕ) → Contains (e ∷ []) d → Contains es f → d < f
      above d f among there =
          omega (arith, only e d among, (rw there.2 at (up 0 (suc there.0) f (omega arith) (omega (arith, there.1)))))

  abbrev extents : List ℕ
  extents = range_with_len 1 (image.geometry.extents - 1)

  extents_count : length extents ≡ image.geometry.extents - 1
  extents_count = length-range_with_len 1 (image.geometry.extents - 1)

  extents_at : (k d : ℕ) → k < length extents → get_or extents k d ≡ 1 + k
  extents_at k d low = get_or-range_with_len 1 (image.geometry.extents - 1) k d (omega (arith, low, extents_count))

  extents_are : AreExtentsBut image.geometry.extents extents
  extents_are = record {
    count = omega (arith, extents_count, image.geometry.extents_least);
    each = λ k low. extents_at k 0 low ∙ (let e : 1 + k ≡ k + 1 = omega arith in e);
  }

  -- and so has the disk
  pub some_found : (rs : List FoundRun) × AreFoundRuns image rs
  some_found =
      let runs =
      some_runs_in extents
      (λ i j d lt low. omega (arith, extents_at i d (omega (arith, lt, low)), extents_at j d low, lt))
      (λ k d low. omega (arith, extents_at k d low, low, extents_count)) in
      (runs.0, runs_of_all image extents runs.0 extents_are runs.1)

  -- ---- at a place

  -- a found run is at its place
  pub found_there : (r : FoundRun) → IsFoundRun image r → IsRunThere image r.frame.extent r.frame.offset (locator_of r.frame)
  found_there r is =
      record { frame = r.frame; count = r.entries; run = is.run; in_extent = refl; at_offset = refl; named = refl }

  -- a run in an extent in memory is at its place
  pub run_there : (e p : ℕ) (s : Standing) (c : ℕ) → e < image.geometry.extents → IsFrameHere (whole_extent image e) e p s →
      IsRunFrameIn (whole_extent image e) s c → IsRunThere image e p (locator_of s)
  run_there e p s c in_disk here run = record {
    frame = s;
    count = c;
    run = run_of image e s c in_disk here.in_extent here.stands run;
    in_extent = here.in_extent;
    at_offset = here.at_place;
    named = refl;
  }

  -- the frame of a run that is at a place
  frame_of_run : (e p : ℕ) (l : Locator) (is : IsRunThere image e p l) → IsFrameIn (whole_extent image e) is.frame
  frame_of_run e p l is = record {
    payload = is.run.payload;
    frame =
        subst (λ (f : ℕ). FrameAt (whole_extent image f) is.frame.offset is.frame.form is.frame.uuid is.run.payload) is.in_extent
        is.run.has.frame.frame;
    length = is.run.has.frame.length;
    digest = is.run.has.frame.digest;
  }

  frame_at_place : (e p : ℕ) (l : Locator) (is : IsRunThere image e p l) → IsFrameHere (whole_extent image e) e p is.frame
  frame_at_place e p l is = record { in_extent = is.in_extent; at_place = is.at_offset; stands = frame_of_run e p l is }

  -- none is past the extent's end
  pub none_past : (e p : ℕ) (l : Locator) → extent_bytes image.geometry ≤ p → ¬ IsRunThere image e p l
  none_past e p l past is = omega (arith, is.run.has.frame.frame.fits, is.at_offset, past, some_bytes is.frame.form)

  -- nor where no frame is
  pub none_without_frame : (e p : ℕ) (l : Locator) → NoFrameAt (whole_extent image e) p → ¬ IsRunThere image e p l
  none_without_frame e p l none is = none_here (whole_extent image e) e p is.frame none (frame_at_place e p l is)

  -- nor where another frame is
  pub none_in_frame : (e p : ℕ) (l : Locator) (s : Standing) → IsFrameHere (whole_extent image e) e p s →
      ((c : ℕ) → ¬ IsRunFrameIn (whole_extent image e) s c) → ¬ IsRunThere image e p l
  none_in_frame e p l s here none is =
      none is.count
      (subst (λ (t : Standing). IsRunFrameIn (whole_extent image e) t is.count)
      (frame_here (whole_extent image e) e p is.frame s (frame_at_place e p l is) here)
      (run_here image e is.frame is.count is.in_extent is.run))

  -- one locator is of the run at a place
  pub one_there : (e p : ℕ) (l m : Locator) → IsRunThere image e p l → IsRunThere image e p m → l ≡ m
  one_there e p l m h k =
      h.named
      ∙ ap locator_of (frame_here (whole_extent image e) e p h.frame k.frame (frame_at_place e p l h) (frame_at_place e p m k))
      ∙ sym k.named

  -- it is one
  pub locator_of_run : (s : Standing) (c : ℕ) → IsRunFrame image s c → IsLocator (locator_of s)
  locator_of_run s c is = record {
    extent = omega (arith, is.has.in_disk, image.geometry.extents_most);
    offset = omega (arith, is.has.frame.frame.fits, image.geometry.extent_fits);
    size = omega (arith, is.has.frame.length, is.has.frame.frame.has_frame.short);
    uuid = is.has.frame.frame.has_frame.sixteen;
    digest = ap (λ (d : List ℕ). length d) is.has.frame.digest ∙ length-sha256 is.payload;
  }

  pub locator_there : (e p : ℕ) (l : Locator) → IsRunThere image e p l → IsLocator l
  locator_there e p l is = subst IsLocator (sym is.named) (locator_of_run is.frame is.count is.run)
