-- Loose frames, found place by place in an extent, and extent by extent. Throughout, a test says which frames are looked
-- for, x is an extent, e and f are numbers of extents, and s and t are frames.
use Rattle.std.proofs.Common.{◌≡◌, ◌⊎◌, ◌<◌, ◌≤◌, ◌+◌, ◌==◌, ℕ, Bool, true, false, List, [], ◌∷◌, ◌++◌, cond, length, get_or, nat_cmp, Ordering, Less, Equal, Greater, arith, refl, sym, ◌∙◌, ap, subst, take, inl, inr}
use Rattle.std.specs.Ordering.{ordering_then}
use Rattle.std.specs.List.{All, Contains}
use Rattle.std.specs.List.Sorted.{IsStrictlyIncreasing, IsStrictlySortedBy}
use Rattle.std.proofs.lemmas.Bool.{cases_lt, eq-eqb, false≢true, le-ltb, lt-ltb}
use Rattle.std.proofs.lemmas.List.Elements.{All-append, All-contains, All-from_recursion, Contains-append_cases, Contains-append_left, Contains-append_right, Contains-get_or, Contains-push, Contains-push_cases, recursion_from_All}
use Rattle.std.proofs.lemmas.List.{take_more}
use Rattle.std.proofs.lemmas.Slice.Zip.{AllZip-long}
use Rattle.list_facts.proofs.Elements.{Contains-behind}
use Rattle.list_facts.proofs.Rising.{All_below_at}
use Rattle.list_facts.proofs.Zips.{AllZip-at}
use Rattle.scrub_frame.specs.declared.form.Form.{Form}
use Rattle.scrub_frame.specs.declared.form.Form.TheVariants.{Plain, Sealed}
use Rattle.scrub_frame.specs.declared.frame.Head.{Head}
use Rattle.scrub_frame.specs.Frame.{frame_overhead}
use Rattle.std.proofs.lemmas.Map.Keys.{IsStrictlyIncreasing-from_sorted, sorted_from_strictly_increasing}
use Rattle.sha2.specs.Sha256.{sha256}
use Rattle.scrub_disk.specs.Image.{Image, extent_bytes}
use Rattle.scrub_scan.specs.declared.standing.Standing.{Standing}
use Rattle.scrub_scan.specs.Extent.{Extent, FrameAt, NoFrameAt}
use Rattle.scrub_scan.specs.Standing.{Stands}
use Rattle.scrub_scan.specs.steps.OneFrame.{one_frame_at}
use Rattle.scrub_scan.proofs.Claims.{only_frame}
use Rattle.scrub_loose.specs.Anywhere.{IsCrowded, IsReadableClaim, whole_extent}
use Rattle.scrub_loose.specs.Loose.{LooseValue, place_cmp}
use Rattle.scrub_loose.specs.steps.Search.{AreFoundIn, AreFoundInEach, AreFramesBefore, IsFrameAmong, IsFrameBefore, IsFrameHere, IsFrameIn}
use Rattle.scrub_loose.proofs.ReadableClaims.{claim_of_frame}

-- ---- orders

-- sorted lists, one behind the other, if all of the first are below all of the second
pub sorted_append : {X : Type 0} (R : X → X → Ordering) (xs ys : List X) → IsStrictlySortedBy R xs → IsStrictlySortedBy R ys →
    ((x y : X) → Contains xs x → Contains ys y → R x y ≡ Less) → IsStrictlySortedBy R (xs ++ ys)
unfolding IsStrictlySortedBy
sorted_append R [] ys s t below = t
sorted_append R (x ∷ xs) ys s t below = (
  recursion_from_All (λ y. R x y ≡ Less) (xs ++ ys)
      (All-append (λ y. R x y ≡ Less) xs ys (All-from_recursion (λ y. R x y ≡ Less) xs s.0)
      (λ k d low. below x (get_or ys k d) (0, omega arith, refl) (Contains-get_or ys k d low))),
  sorted_append R xs ys s.1 t (λ z y among there. below z y (Contains-behind x xs z among) there),
)

-- one element is sorted
pub sorted_one : {X : Type 0} (R : X → X → Ordering) (y : X) → IsStrictlySortedBy R (y ∷ [])
unfolding IsStrictlySortedBy
sorted_one R y = (tt, tt)

-- none is, too
pub sorted_none : {X : Type 0} (R : X → X → Ordering) → IsStrictlySortedBy R []
unfolding IsStrictlySortedBy
sorted_none R = tt

pub less_cmp : (a b : ℕ) → a < b → nat_cmp a b ≡ Less
less_cmp a b lt = ap (λ (t : Bool). cond t Less (cond (a == b) Equal Greater)) (lt-ltb a b lt)

pub same_cmp : (a b : ℕ) → a ≡ b → nat_cmp a b ≡ Equal
same_cmp a b same =
    ap (λ (t : Bool). cond t Less (cond (a == b) Equal Greater)) (le-ltb a b (omega (arith, same)))
    ∙ ap (λ (t : Bool). cond t Equal Greater) (eq-eqb a b same)

-- a frame in an earlier extent comes first
pub by_extent : (s t : Standing) → s.extent < t.extent → place_cmp s t ≡ Less
by_extent s t lt = ap (λ (r : Ordering). ordering_then r (nat_cmp s.offset t.offset)) (less_cmp s.extent t.extent lt)

pub by_offset : (s t : Standing) → s.extent ≡ t.extent → s.offset < t.offset → place_cmp s t ≡ Less
by_offset s t same lt =
    ap (λ (r : Ordering). ordering_then r (nat_cmp s.offset t.offset)) (same_cmp s.extent t.extent same)
    ∙ less_cmp s.offset t.offset lt

-- ---- place by place

-- at most one frame is at a place
pub same_frame : (x : Extent) (s t : Standing) → s.extent ≡ t.extent → s.offset ≡ t.offset → IsFrameIn x s → IsFrameIn x t → s ≡ t
same_frame x s t same_extent same_offset h k =
    let same = one_frame_at x s.offset s.form s.uuid h.payload t.form t.uuid k.payload h.frame
    (subst (λ (p : ℕ). FrameAt x p t.form t.uuid k.payload) (sym same_offset) k.frame) in
    let size : s.length ≡ t.length = h.length ∙ ap (λ (b : List ℕ). length b) same.2 ∙ sym k.length in
    let digest : s.digest ≡ t.digest = h.digest ∙ ap sha256 same.2 ∙ sym k.digest in
    λ i. record {
      extent = same_extent i;
      offset = same_offset i;
      form = same.0 i;
      uuid = same.1 i;
      length = size i;
      digest = digest i;
    }

module _ (test : Standing → Bool) (x : Extent) (e : ℕ) where
  -- none at no byte
  pub frames_none : AreFramesBefore test x e 0 []
  frames_none = record {
    rise = sorted_none place_cmp;
    each = λ s. (λ there. absurd (omega (arith, there.1)), λ h. absurd (omega (arith, h.before)));
  }

  later : (n : ℕ) (s : Standing) → IsFrameBefore test x e n s → IsFrameBefore test x e (n + 1) s
  later n s h = record { in_extent = h.in_extent; before = omega (arith, h.before); stands = h.stands; passes = h.passes }

  last : (n : ℕ) (s : Standing) → IsFrameBefore test x e (n + 1) s →
      IsFrameBefore test x e n s ⊎ (IsFrameHere x e n s × (test s ≡ true))
  last n s h = elim (cases_lt s.offset n) [
    | inl low ↦ inl (record { in_extent = h.in_extent; before = low; stands = h.stands; passes = h.passes })
    | inr high ↦ inr (record { in_extent = h.in_extent; at_place = omega (arith, high, h.before); stands = h.stands }, h.passes)
  ]

  -- one more that passes the test
  pub frames_more : (n : ℕ) (fs : List Standing) (s : Standing) → AreFramesBefore test x e n fs → IsFrameHere x e n s →
      test s ≡ true → AreFramesBefore test x e (n + 1) (fs ++ s ∷ [])
  frames_more n fs s are here passes = record {
    rise =
        sorted_append place_cmp fs (s ∷ []) are.rise (sorted_one place_cmp s)
        (λ t z among there.
        let before = (are.each t).0 among in
        let is : s ≡ z = only z there in
        subst (λ (y : Standing). place_cmp t y ≡ Less) is
        (by_offset t s (before.in_extent ∙ sym here.in_extent) (omega (arith, before.before, here.at_place))));
    each = λ t. (
      λ there. elim (Contains-push_cases fs s t there) [
        | inl among ↦ later n t ((are.each t).0 among)
        | inr is ↦
            subst (IsFrameBefore test x e (n + 1)) is
            (record { in_extent = here.in_extent; before = omega (arith, here.at_place); stands = here.stands; passes = passes })
      ],
      λ h. elim (last n t h) [
        | inl before ↦ Contains-append_left fs (s ∷ []) t ((are.each t).1 before)
        | inr at ↦
            subst (Contains (fs ++ s ∷ []))
            (same_frame x s t (here.in_extent ∙ sym at.0.in_extent) (here.at_place ∙ sym at.0.at_place) here.stands at.0.stands)
            (Contains-push fs s)
      ],
    );
  }
    where
      only : (z : Standing) → Contains (s ∷ []) z → s ≡ z
      only z there = elim (Contains-push_cases [] s z there) [ inl none ↦ absurd (omega (arith, none.1)) | inr is ↦ is ]

  -- none that passes
  pub frames_same : (n : ℕ) (fs : List Standing) → AreFramesBefore test x e n fs →
      ((s : Standing) → IsFrameHere x e n s → test s ≡ false) → AreFramesBefore test x e (n + 1) fs
  frames_same n fs are fails = record {
    rise = are.rise;
    each = λ t. (
      λ there. later n t ((are.each t).0 there),
      λ h. elim (last n t h) [
        | inl before ↦ (are.each t).1 before
        | inr at ↦ absurd (false≢true (sym (fails t at.0) ∙ at.1))
      ],
    );
  }

-- the frame at a place is the one that was found there
pub frame_here : (x : Extent) (e p : ℕ) (s t : Standing) → IsFrameHere x e p s → IsFrameHere x e p t → s ≡ t
frame_here x e p s t h k = same_frame x s t (h.in_extent ∙ sym k.in_extent) (h.at_place ∙ sym k.at_place) h.stands k.stands

frame_at : (x : Extent) (e p : ℕ) (s : Standing) (h : IsFrameHere x e p s) → FrameAt x p s.form s.uuid h.stands.payload
frame_at x e p s h = subst (λ (q : ℕ). FrameAt x q s.form s.uuid h.stands.payload) h.at_place h.stands.frame

-- it has the length that is claimed there
pub length_here : (x : Extent) (e p : ℕ) (h : Head) (s : Standing) → IsReadableClaim x p h → IsFrameHere x e p s → s.length ≡ h.length
length_here x e p h s claim here =
    here.stands.length ∙ sym (only_frame x p h claim.claimed s.form s.uuid here.stands.payload (frame_at x e p s here)).2

-- it isn't found where no frame is
pub none_here : (x : Extent) (e p : ℕ) (s : Standing) → NoFrameAt x p → ¬ IsFrameHere x e p s
none_here x e p s none here = none s.form s.uuid here.stands.payload (frame_at x e p s here)

-- nor where none is claimed
pub unclaimed : (x : Extent) (e p : ℕ) (s : Standing) → ((h : Head) → ¬ IsReadableClaim x p h) → ¬ IsFrameHere x e p s
unclaimed x e p s none here =
    none (record { form = s.form; uuid = s.uuid; length = length here.stands.payload })
    (claim_of_frame x p s.form s.uuid here.stands.payload (frame_at x e p s here))

-- ---- extent by extent

least : (f : Form) → 1 ≤ frame_overhead f
least Plain = omega arith
least Sealed = omega arith

module _ (test : Standing → Bool) (image : Image) where
  -- nothing in no extent
  pub found_none : AreFoundIn test image [] (record { frames = []; crowded = [] })
  found_none = record {
    frames_rise = sorted_none place_cmp;
    frames = λ s. (λ there. absurd (omega (arith, there.1)), λ h. absurd (omega (arith, h.among.1)));
    crowded_rise = λ k low. absurd (omega (arith, low));
    crowded = λ e. (λ there. absurd (omega (arith, there.1)), λ h. absurd (omega (arith, h.0.1)));
  }

  alone : (e f : ℕ) → Contains (e ∷ []) f → e ≡ f
  alone e f there = elim (Contains-push_cases [] e f there) [ inl none ↦ absurd (omega (arith, none.1)) | inr is ↦ is ]

  -- a crowded extent
  pub found_crowd : (e : ℕ) → IsCrowded image e → AreFoundIn test image (e ∷ []) (record { frames = []; crowded = e ∷ [] })
  found_crowd e crowd = record {
    frames_rise = sorted_none place_cmp;
    frames = λ s. (
      λ there. absurd (omega (arith, there.1)),
      λ h. absurd (h.sparse (subst (IsCrowded image) (alone e s.extent h.among) crowd)),
    );
    crowded_rise = λ k low. absurd (omega (arith, low));
    crowded = λ f. (λ there. (there, subst (IsCrowded image) (alone e f there) crowd), λ h. h.0);
  }

  -- the frames of one that isn't
  pub found_sparse : (e : ℕ) (fs : List Standing) → ¬ IsCrowded image e → e < image.geometry.extents →
      AreFramesBefore test (whole_extent image e) e (extent_bytes image.geometry) fs →
      AreFoundIn test image (e ∷ []) (record { frames = fs; crowded = [] })
  found_sparse e fs sparse in_disk are = record {
    frames_rise = are.rise;
    frames = λ s. (
      λ there. among s ((are.each s).0 there),
      λ h. (are.each s).1 (before s (sym (alone e s.extent h.among)) h.stands h.passes),
    );
    crowded_rise = λ k low. absurd (omega (arith, low));
    crowded = λ f. (
      λ there. absurd (omega (arith, there.1)),
      λ h. absurd (sparse (subst (IsCrowded image) (sym (alone e f h.0)) h.1)),
    );
  }
    where
      among : (s : Standing) → IsFrameBefore test (whole_extent image e) e (extent_bytes image.geometry) s →
          IsFrameAmong test image (e ∷ []) s
      among s h = record {
        among = (0, omega arith, sym h.in_extent);
        sparse = subst (λ (f : ℕ). ¬ IsCrowded image f) (sym h.in_extent) sparse;
        stands = record {
          payload = h.stands.payload;
          has = record {
            in_disk = omega (arith, h.in_extent, in_disk);
            frame = record {
              frame = subst (λ (f : ℕ). FrameAt (whole_extent image f) s.offset s.form s.uuid h.stands.payload) (sym h.in_extent) h.stands.frame;
              length = h.stands.length;
              digest = h.stands.digest;
            };
          };
        };
        passes = h.passes;
      }

      before : (s : Standing) → s.extent ≡ e → Stands image s → test s ≡ true →
          IsFrameBefore test (whole_extent image e) e (extent_bytes image.geometry) s
      before s is h passes = record {
        in_extent = is;
        before = omega (arith, h.has.frame.frame.fits, least s.form);
        stands = record {
          payload = h.payload;
          frame = subst (λ (f : ℕ). FrameAt (whole_extent image f) s.offset s.form s.uuid h.payload) is h.has.frame.frame;
          length = h.has.frame.length;
          digest = h.has.frame.digest;
        };
        passes = passes;
      }

  -- an extent that the disk doesn't have
  pub found_outside : (e : ℕ) → ¬ IsCrowded image e → image.geometry.extents ≤ e →
      AreFoundIn test image (e ∷ []) (record { frames = []; crowded = [] })
  found_outside e sparse outside = record {
    frames_rise = sorted_none place_cmp;
    frames = λ s. (
      λ there. absurd (omega (arith, there.1)),
      λ h. absurd (omega (arith, h.stands.has.in_disk, outside, alone e s.extent h.among)),
    );
    crowded_rise = λ k low. absurd (omega (arith, low));
    crowded = λ f. (
      λ there. absurd (omega (arith, there.1)),
      λ h. absurd (sparse (subst (IsCrowded image) (sym (alone e f h.0)) h.1)),
    );
  }

  -- what is found in some extents and in later ones
  pub found_joined : (es fs : List ℕ) (v w : LooseValue) → AreFoundIn test image es v → AreFoundIn test image fs w →
      ((e f : ℕ) → Contains es e → Contains fs f → e < f) →
      AreFoundIn test image (es ++ fs) (record { frames = v.frames ++ w.frames; crowded = v.crowded ++ w.crowded })
  found_joined es fs v w h k below = record {
    frames_rise =
        sorted_append place_cmp v.frames w.frames h.frames_rise k.frames_rise
        (λ s t among there. by_extent s t (below s.extent t.extent ((h.frames s).0 among).among ((k.frames t).0 there).among));
    frames = λ s. (
      λ there. elim (Contains-append_cases v.frames w.frames s there) [
        | inl first ↦ widened s (λ c. Contains-append_left es fs s.extent c) ((h.frames s).0 first)
        | inr second ↦ widened s (λ c. Contains-append_right es fs s.extent c) ((k.frames s).0 second)
      ],
      λ is. elim (Contains-append_cases es fs s.extent is.among) [
        | inl first ↦
            Contains-append_left v.frames w.frames s
            ((h.frames s).1 (record { among = first; sparse = is.sparse; stands = is.stands; passes = is.passes }))
        | inr second ↦
            Contains-append_right v.frames w.frames s
            ((k.frames s).1 (record { among = second; sparse = is.sparse; stands = is.stands; passes = is.passes }))
      ],
    );
    crowded_rise =
        IsStrictlyIncreasing-from_sorted (v.crowded ++ w.crowded)
        (sorted_append nat_cmp v.crowded w.crowded (sorted_from_strictly_increasing v.crowded h.crowded_rise)
        (sorted_from_strictly_increasing w.crowded k.crowded_rise)
        (λ e f among there. less_cmp e f (below e f ((h.crowded e).0 among).0 ((k.crowded f).0 there).0)));
    crowded = λ e. (
      λ there. elim (Contains-append_cases v.crowded w.crowded e there) [
        | inl first ↦ (Contains-append_left es fs e ((h.crowded e).0 first).0, ((h.crowded e).0 first).1)
        | inr second ↦ (Contains-append_right es fs e ((k.crowded e).0 second).0, ((k.crowded e).0 second).1)
      ],
      λ is. elim (Contains-append_cases es fs e is.0) [
        | inl first ↦ Contains-append_left v.crowded w.crowded e ((h.crowded e).1 (first, is.1))
        | inr second ↦ Contains-append_right v.crowded w.crowded e ((k.crowded e).1 (second, is.1))
      ],
    );
  }
    where
      widened : {gs : List ℕ} (s : Standing) → (Contains gs s.extent → Contains (es ++ fs) s.extent) → IsFrameAmong test image gs s →
          IsFrameAmong test image (es ++ fs) s
      widened s more is = record { among = more is.among; sparse = is.sparse; stands = is.stands; passes = is.passes }

-- what is found in one more of some extents that ascend
pub found_more : (test : Standing → Bool) (image : Image) (es : List ℕ) (each : List LooseValue) (i : ℕ) (here so_far all : LooseValue) →
    IsStrictlyIncreasing es → AreFoundInEach test image es each → i < length each → here ≡ get_or each i here →
    AreFoundIn test image (take i es) so_far → all.frames ≡ so_far.frames ++ here.frames → all.crowded ≡ so_far.crowded ++ here.crowded →
    AreFoundIn test image (take (i + 1) es) all
found_more test image es each i here so_far all rising found low is h frames crowded =
    let count = AllZip-long (λ f v. AreFoundIn test image (f ∷ []) v) es each found in
    let within : i < length es = omega (arith, low, count) in
    let e : ℕ = get_or es i 0 in
    let one : AreFoundIn test image (e ∷ []) here =
    subst (λ v. AreFoundIn test image (e ∷ []) v) (sym is)
    (AllZip-at (λ f v. AreFoundIn test image (f ∷ []) v) es each i 0 here within found) in
    let both =
    found_joined test image (take i es) (e ∷ []) so_far here h one
    (λ d f among there. below d f among (alone e f there) (All_below_at es i rising within)) in
    subst (λ fs. AreFoundIn test image fs all) (sym (take_more es i 0 within))
    (subst (λ v. AreFoundIn test image (take i es ++ e ∷ []) v) (λ k. record { frames = sym frames k; crowded = sym crowded k }) both)
  where
    alone : (e f : ℕ) → Contains (e ∷ []) f → e ≡ f
    alone e f there = elim (Contains-push_cases [] e f there) [ inl none ↦ absurd (omega (arith, none.1)) | inr is ↦ is ]

    below : (d f : ℕ) → Contains (take i es) d → get_or es i 0 ≡ f → All (λ y. y < get_or es i 0) (take i es) → d < f
    below d f among same all_below = omega (arith, same, All-contains (λ y. y < get_or es i 0) (take i es) d all_below among)
