-- Index runs among the outer frames of an extent, and of several extents. Throughout, x is an extent, e its number, n a place,
-- fs frames, rs the runs among them, s a frame, and q and r are runs.
use Rattle.std.proofs.Common.{◌≡◌, ◌<◌, ◌≤◌, ◌+◌, ◌-◌, ℕ, List, [], ◌∷◌, ◌++◌, Less, length, get_or, take, arith, sym, ◌∙◌, ap, subst, inl, inr}
use Rattle.std.specs.Cmp.{IsTotalOrder, nat_cmp_total}
use Rattle.std.specs.List.{All, Contains}
use Rattle.std.specs.List.Sorted.{IsStrictlyIncreasing}
use Rattle.std.proofs.lemmas.Cmp.{on_total, then_total}
use Rattle.std.proofs.lemmas.List.{get_or_default, take_more}
use Rattle.std.proofs.lemmas.List.Elements.{All-contains, All-contains_itself, Contains-append_cases, Contains-append_left, Contains-append_right, Contains-push, Contains-push_cases}
use Rattle.std.proofs.lemmas.Slice.Zip.{AllZip-long}
use Rattle.list_facts.proofs.Rising.{All_below_at}
use Rattle.list_facts.proofs.Sorted.{same_if_strictly_sorted}
use Rattle.list_facts.proofs.Zips.{AllZip-at}
use Rattle.sha2.specs.Sha256.{sha256}
use Rattle.scrub_disk.specs.Image.{Image, extent_bytes}
use Rattle.scrub_run.specs.Entry.{EntryValue}
use Rattle.scrub_run.specs.Run.{IsRun}
use Rattle.scrub_run.proofs.RunsThere.{one_run_lem}
use Rattle.scrub_scan.specs.declared.standing.Standing.{Standing}
use Rattle.scrub_scan.specs.Extent.{Extent, FrameAt, NoFrameAt}
use Rattle.scrub_scan.specs.steps.OneFrame.{one_frame_at}
use Rattle.scrub_loose.specs.Anywhere.{whole_extent}
use Rattle.scrub_loose.specs.Outer.{AreFoundRuns, AreOuterFrames, IsRunFrame, frame_end, run_cmp}
use Rattle.scrub_loose.specs.declared.outer.FoundRun.{FoundRun}
use Rattle.scrub_loose.specs.steps.Search.{IsFrameHere, IsFrameIn}
use Rattle.scrub_loose.specs.steps.Walk.{AreExtentsBut, AreOuterBefore, AreRunsAmong, AreRunsBefore, AreRunsIn, AreWalked, IsBefore, IsRunAmong, IsRunFrameIn, IsWalked, WalkedValue}
use Rattle.scrub_loose.proofs.FoundFrames.{by_extent, by_offset, none_here, sorted_append, sorted_none, sorted_one}
use Rattle.scrub_loose.proofs.OuterFrames.{ends_step, one_outer, only, outer_none, outer_of_extent, outer_same, outer_step}

-- a run that is found, by its parts
same_run : (q r : FoundRun) → q.frame ≡ r.frame → q.entries ≡ r.entries → q ≡ r
same_run q r frame entries = λ i. record { frame = frame i; entries = entries i }

-- a payload has one number of entries
pub one_count : (x : Extent) (s : Standing) (a b : ℕ) → IsRunFrameIn x s a → IsRunFrameIn x s b → a ≡ b
one_count x s a b h k =
    let same = one_frame_at x s.offset s.form s.uuid h.payload s.form s.uuid k.payload h.frame k.frame in
    h.counted
    ∙ ap (λ (es : List EntryValue). length es)
    (one_run_lem k.payload h.entries k.entries (subst (λ (b : List ℕ). IsRun b h.entries) same.2 h.run) k.run)
    ∙ sym k.counted

-- ---- among frames

module _ (x : Extent) where
  -- none among none
  pub among_none : AreRunsAmong x [] []
  among_none = record {
    rise = sorted_none run_cmp;
    each = λ r. (λ there. absurd (omega (arith, there.1)), λ h. absurd (omega (arith, h.0.1)));
  }

  -- a frame more, without a run
  pub among_same : (fs : List Standing) (rs : List FoundRun) (s : Standing) → AreRunsAmong x fs rs → ((c : ℕ) → ¬ IsRunFrameIn x s c) →
      AreRunsAmong x (fs ++ s ∷ []) rs
  among_same fs rs s h none = record {
    rise = h.rise;
    each = λ r. (
      λ there. let is = (h.each r).0 there in (Contains-append_left fs (s ∷ []) r.frame is.0, is.1),
      λ is. elim (Contains-push_cases fs s r.frame is.0) [
        | inl among ↦ (h.each r).1 (among, is.1)
        | inr same ↦ absurd (none r.entries (subst (λ (t : Standing). IsRunFrameIn x t r.entries) (sym same) is.1))
      ],
    );
  }

  -- one with a run
  pub among_more : (e n : ℕ) (fs : List Standing) (rs : List FoundRun) (s : Standing) (r : FoundRun) → AreRunsAmong x fs rs →
      All (IsBefore x e n) fs → IsFrameHere x e n s → r.frame ≡ s → IsRunFrameIn x s r.entries →
      AreRunsAmong x (fs ++ s ∷ []) (rs ++ r ∷ [])
  among_more e n fs rs s r h before here is run = record {
    rise =
        sorted_append run_cmp rs (r ∷ []) h.rise (sorted_one run_cmp r)
        (λ q z among there.
        subst (λ (y : FoundRun). run_cmp q y ≡ Less) (only r z there) (first q among));
    each = λ q. (
      λ there. elim (Contains-push_cases rs r q there) [
        | inl among ↦ let parts = (h.each q).0 among in (Contains-append_left fs (s ∷ []) q.frame parts.0, parts.1)
        | inr same ↦
            subst (λ (y : FoundRun). Contains (fs ++ s ∷ []) y.frame × IsRunFrameIn x y.frame y.entries) same
            (subst (λ (t : Standing). Contains (fs ++ s ∷ []) t × IsRunFrameIn x t r.entries) (sym is) (Contains-push fs s, run))
      ],
      λ parts. elim (Contains-push_cases fs s q.frame parts.0) [
        | inl among ↦ Contains-append_left rs (r ∷ []) q ((h.each q).1 (among, parts.1))
        | inr same ↦
            subst (Contains (rs ++ r ∷ []))
            (same_run r q (is ∙ same)
            (one_count x q.frame r.entries q.entries (subst (λ (t : Standing). IsRunFrameIn x t r.entries) same run) parts.1))
            (Contains-push rs r)
      ],
    );
  }
    where
      first : (q : FoundRun) → Contains rs q → run_cmp q r ≡ Less
      first q among =
          let at = All-contains (IsBefore x e n) fs q.frame before ((h.each q).0 among).0 in
          by_offset q.frame r.frame (at.in_extent ∙ sym (ap (λ (t : Standing). t.extent) is ∙ here.in_extent))
          (omega (arith, at.before, ap (λ (t : Standing). t.offset) is, here.at_place))

-- ---- from place to place

module _ (x : Extent) (e : ℕ) where
  pub runs_none : AreRunsBefore x e 0 []
  runs_none = record { frames = []; outer = outer_none x e; ends = λ k d low. absurd (omega (arith, low)); runs = among_none x }

  -- no frame
  pub runs_past : (n : ℕ) (rs : List FoundRun) → NoFrameAt x n → AreRunsBefore x e n rs → AreRunsBefore x e (n + 1) rs
  runs_past n rs none h = record {
    frames = h.frames;
    outer = outer_same x e n h.frames h.outer (λ s here. none_here x e n s none here);
    ends = λ k d low. omega (arith, h.ends k d low);
    runs = h.runs;
  }

  -- a frame without a run
  pub runs_over : (n m : ℕ) (rs : List FoundRun) (s : Standing) → IsFrameHere x e n s → m ≡ frame_end s → ((c : ℕ) → ¬ IsRunFrameIn x s c) →
      AreRunsBefore x e n rs → AreRunsBefore x e m rs
  runs_over n m rs s here is none h = record {
    frames = h.frames ++ s ∷ [];
    outer = outer_step x e n m h.frames s h.outer h.ends here is;
    ends = ends_step x e n m h.frames s h.ends here is;
    runs = among_same x h.frames rs s h.runs none;
  }

  -- a frame with a run
  pub runs_more : (n m : ℕ) (rs : List FoundRun) (s : Standing) (r : FoundRun) → IsFrameHere x e n s → m ≡ frame_end s → r.frame ≡ s →
      IsRunFrameIn x s r.entries → AreRunsBefore x e n rs → AreRunsBefore x e m (rs ++ r ∷ [])
  runs_more n m rs s r here is same run h = record {
    frames = h.frames ++ s ∷ [];
    outer = outer_step x e n m h.frames s h.outer h.ends here is;
    ends = ends_step x e n m h.frames s h.ends here is;
    runs = among_more x e n h.frames rs s r h.runs h.outer.are here same run;
  }

-- ---- extent by extent

module _ (image : Image) where
  -- a run in an extent in memory is one of the disk
  pub run_of : (e : ℕ) (s : Standing) (c : ℕ) → e < image.geometry.extents → s.extent ≡ e → IsFrameIn (whole_extent image e) s →
      IsRunFrameIn (whole_extent image e) s c → IsRunFrame image s c
  run_of e s c in_disk is frame run =
      let same = one_frame_at (whole_extent image e) s.offset s.form s.uuid frame.payload s.form s.uuid run.payload frame.frame run.frame in
      record {
        payload = run.payload;
        has = record {
          in_disk = omega (arith, is, in_disk);
          frame = record {
            frame = subst (λ (f : ℕ). FrameAt (whole_extent image f) s.offset s.form s.uuid run.payload) (sym is) run.frame;
            length = frame.length ∙ ap (λ (b : List ℕ). length b) same.2;
            digest = frame.digest ∙ ap sha256 same.2;
          };
        };
        entries = run.entries;
        run = run.run;
        counted = run.counted;
      }

  -- and the other way round
  pub run_here : (e : ℕ) (s : Standing) (c : ℕ) → s.extent ≡ e → IsRunFrame image s c → IsRunFrameIn (whole_extent image e) s c
  run_here e s c is run = record {
    payload = run.payload;
    frame = subst (λ (f : ℕ). FrameAt (whole_extent image f) s.offset s.form s.uuid run.payload) is run.has.frame.frame;
    entries = run.entries;
    run = run.run;
    counted = run.counted;
  }

  -- those of an extent
  pub runs_of_extent : (e : ℕ) (fs : List Standing) (rs : List FoundRun) → e < image.geometry.extents →
      AreOuterBefore (whole_extent image e) e (extent_bytes image.geometry) fs → AreRunsAmong (whole_extent image e) fs rs →
      AreRunsIn image (e ∷ []) rs
  runs_of_extent e fs rs in_disk outer h = record {
    rise = h.rise;
    each = λ r. (
      λ there.
          let parts = (h.each r).0 there in
          let at = All-contains (IsBefore (whole_extent image e) e (extent_bytes image.geometry)) fs r.frame outer.are parts.0 in
          record {
            among = (0, omega arith, sym at.in_extent);
            outer = record {
              frames = fs;
              are = subst (λ (f : ℕ). AreOuterFrames image f fs) (sym at.in_extent) (outer_of_extent image e fs in_disk outer);
              among = parts.0;
            };
            run = run_of e r.frame r.entries in_disk at.in_extent at.stands parts.1;
          },
      λ is.
          let here : r.frame.extent ≡ e = sym (only e r.frame.extent is.among) in
          let same : is.outer.frames ≡ fs =
          one_outer image e is.outer.frames fs (subst (λ (f : ℕ). AreOuterFrames image f is.outer.frames) here is.outer.are)
          (outer_of_extent image e fs in_disk outer) in
          (h.each r).1
          (subst (λ (gs : List Standing). Contains gs r.frame) same is.outer.among, run_here e r.frame r.entries here is.run),
    );
  }

  -- those of no extent
  pub runs_nowhere : AreRunsIn image [] []
  runs_nowhere = record {
    rise = sorted_none run_cmp;
    each = λ r. (λ there. absurd (omega (arith, there.1)), λ is. absurd (omega (arith, is.among.1)));
  }

  widened : (es fs : List ℕ) (r : FoundRun) → (Contains es r.frame.extent → Contains fs r.frame.extent) → IsRunAmong image es r →
      IsRunAmong image fs r
  widened es fs r more is = record { among = more is.among; outer = is.outer; run = is.run }

  -- those of some extents and of later ones
  pub runs_joined : (es fs : List ℕ) (qs rs : List FoundRun) → AreRunsIn image es qs → AreRunsIn image fs rs →
      ((e f : ℕ) → Contains es e → Contains fs f → e < f) → AreRunsIn image (es ++ fs) (qs ++ rs)
  runs_joined es fs qs rs h k below = record {
    rise =
        sorted_append run_cmp qs rs h.rise k.rise
        (λ q r among there.
        by_extent q.frame r.frame (below q.frame.extent r.frame.extent ((h.each q).0 among).among ((k.each r).0 there).among));
    each = λ r. (
      λ there. elim (Contains-append_cases qs rs r there) [
        | inl first ↦ widened es (es ++ fs) r (λ c. Contains-append_left es fs r.frame.extent c) ((h.each r).0 first)
        | inr second ↦ widened fs (es ++ fs) r (λ c. Contains-append_right es fs r.frame.extent c) ((k.each r).0 second)
      ],
      λ is. elim (Contains-append_cases es fs r.frame.extent is.among) [
        | inl first ↦
            Contains-append_left qs rs r ((h.each r).1 (record { among = first; outer = is.outer; run = is.run }))
        | inr second ↦
            Contains-append_right qs rs r ((k.each r).1 (record { among = second; outer = is.outer; run = is.run }))
      ],
    );
  }

  -- those of one more of some extents that ascend
  pub runs_in_more : (es : List ℕ) (each : List WalkedValue) (i : ℕ) (here : WalkedValue) (so_far all : List FoundRun) →
      IsStrictlyIncreasing es → AreWalked image es each → i < length each → here ≡ get_or each i here →
      AreRunsIn image (take i es) so_far → all ≡ so_far ++ here.runs → AreRunsIn image (take (i + 1) es) all
  runs_in_more es each i here so_far all rising found low is h joined =
      let count = AllZip-long (IsWalked image) es each found in
      let within : i < length es = omega (arith, low, count) in
      let e : ℕ = get_or es i 0 in
      let one : IsWalked image e here =
      subst (λ v. IsWalked image e v) (sym is) (AllZip-at (IsWalked image) es each i 0 here within found) in
      let both =
      runs_joined (take i es) (e ∷ []) so_far here.runs h one.runs
      (λ d f among there. below d f among (only e f there) (All_below_at es i rising within)) in
      subst (λ fs. AreRunsIn image fs all) (sym (take_more es i 0 within))
      (subst (λ v. AreRunsIn image (take i es ++ e ∷ []) v) (sym joined) both)
    where
      below : (d f : ℕ) → Contains (take i es) d → get_or es i 0 ≡ f → All (λ y. y < get_or es i 0) (take i es) → d < f
      below d f among same all_below = omega (arith, same, All-contains (λ y. y < get_or es i 0) (take i es) d all_below among)

-- ---- on a disk

-- the extents but for the first ascend
pub extents_rise : (extents : ℕ) (es : List ℕ) → AreExtentsBut extents es → IsStrictlyIncreasing es
extents_rise extents es h k low = omega (arith, h.each k (omega (arith, low)), h.each (k + 1) low)

-- they are of the disk
pub extents_in_disk : (extents : ℕ) (es : List ℕ) → AreExtentsBut extents es → All (λ e. e < extents) es
extents_in_disk extents es h k d low =
    omega (arith, get_or_default es k d 0 low, h.each k low, h.count, low)

-- the runs in them are those of the disk
pub runs_of_all : (image : Image) (es : List ℕ) (rs : List FoundRun) → AreExtentsBut image.geometry.extents es →
    AreRunsIn image es rs → AreFoundRuns image rs
runs_of_all image es rs are h = record {
  rise = h.rise;
  each = λ r. (
    λ there.
        let is = (h.each r).0 there in
        record { past_first = least r.frame.extent is.among; outer = is.outer; run = is.run },
    λ is. (h.each r).1 (record { among = among r.frame.extent is.past_first is.run.has.in_disk; outer = is.outer; run = is.run }),
  );
}
  where
    least : (e : ℕ) → Contains es e → 1 ≤ e
    least e there = omega (arith, get_or_default es there.0 e 0 there.1, there.2, are.each there.0 there.1)

    among : (e : ℕ) → 1 ≤ e → e < image.geometry.extents → Contains es e
    among e some below =
        let low : e - 1 < length es = omega (arith, are.count, some, below) in
        (e - 1, low, get_or_default es (e - 1) e 0 low ∙ are.each (e - 1) low ∙ (let back : e - 1 + 1 ≡ e = omega (arith, some) in back))

-- the order of runs is total
pub run_total : IsTotalOrder run_cmp
run_total =
    then_total (on_total (λ (r : FoundRun). r.frame.extent) nat_cmp_total) (on_total (λ (r : FoundRun). r.frame.offset) nat_cmp_total)

-- so a disk has one list of them
pub one_found : (image : Image) (qs rs : List FoundRun) → AreFoundRuns image qs → AreFoundRuns image rs → qs ≡ rs
one_found image qs rs h k =
    same_if_strictly_sorted run_total qs rs h.rise k.rise
    (λ i d low. (k.each (get_or qs i d)).1 ((h.each (get_or qs i d)).0 (All-contains_itself qs i d low)))
    (λ i d low. (h.each (get_or rs i d)).1 ((k.each (get_or rs i d)).0 (All-contains_itself rs i d low)))

-- what is found in each extent but the first makes the found runs of a disk
pub runs_of_disk : (image : Image) (each : List WalkedValue) (found : List FoundRun) →
    ((es : List ℕ) × AreExtentsBut image.geometry.extents es × AreWalked image es each) →
    ((es : List ℕ) → IsStrictlyIncreasing es → AreWalked image es each → AreRunsIn image es found) → AreFoundRuns image found
runs_of_disk image each found walked joined =
    runs_of_all image walked.0 found walked.1 (joined walked.0 (extents_rise image.geometry.extents walked.0 walked.1) walked.2)
