-- Outer frames of an extent, found from place to place. Throughout, x is an extent, e its number, n a place, fs the outer
-- frames in front of it, and s and t are frames.
use Rattle.std.proofs.Common.{◌≡◌, ◌<◌, ◌≤◌, ◌+◌, ℕ, zero, suc, List, [], ◌∷◌, ◌++◌, length, get_or, arith, sym, ◌∙◌, ap, subst, inl, inr}
use Rattle.std.specs.List.{All, AllPairs, Contains}
use Rattle.std.proofs.lemmas.Bool.{cases_lt}
use Rattle.std.proofs.lemmas.List.{get_or_default}
use Rattle.std.proofs.lemmas.List.Elements.{All-contains, All-push, All-weaker, Contains-append_left, Contains-push}
use Rattle.std.proofs.lemmas.List.Quantifiers.{all_pairs_push}
use Rattle.list_facts.proofs.Sorted.{same_if_ordered}
use Rattle.scrub_disk.specs.Image.{Image, extent_bytes}
use Rattle.scrub_frame.specs.declared.form.Form.{Form}
use Rattle.scrub_frame.specs.declared.form.Form.TheVariants.{Plain, Sealed}
use Rattle.scrub_frame.specs.Frame.{frame_overhead}
use Rattle.scrub_scan.specs.declared.standing.Standing.{Standing}
use Rattle.scrub_scan.specs.Extent.{Extent, FrameAt}
use Rattle.scrub_scan.specs.Standing.{Stands}
use Rattle.scrub_loose.specs.Anywhere.{whole_extent}
use Rattle.scrub_loose.specs.Outer.{AreOuterFrames, BeginsWithin, frame_end}
use Rattle.scrub_loose.specs.steps.Search.{IsFrameHere, IsFrameIn}
use Rattle.scrub_loose.specs.steps.Walk.{AreOuterBefore, IsBefore}
use Rattle.scrub_loose.proofs.FoundFrames.{same_frame}

-- a frame has bytes
pub some_bytes : (f : Form) → 1 ≤ frame_overhead f
some_bytes Plain = omega arith
some_bytes Sealed = omega arith

-- what is in a list of one
pub only : {X : Type 0} (y z : X) → Contains (y ∷ []) z → y ≡ z
only {X} y z there = at there.0 there.1 there.2
  where
    at : (k : ℕ) → k < length (y ∷ []) → get_or (y ∷ []) k z ≡ z → y ≡ z
    at zero low is = is
    at (suc k) low is = absurd (omega (arith, low))

module _ (x : Extent) (e : ℕ) where
  -- in front of a place and of a later one
  pub before_later : (n m : ℕ) (s : Standing) → n ≤ m → IsBefore x e n s → IsBefore x e m s
  before_later n m s le h = record { in_extent = h.in_extent; before = omega (arith, h.before, le); stands = h.stands }

  -- none at no byte
  pub outer_none : AreOuterBefore x e 0 []
  outer_none = record {
    are = λ k d low. absurd (omega (arith, low));
    apart = λ i j d lt low. absurd (omega (arith, low));
    others = λ t h. absurd (omega (arith, h.before));
  }

  -- up to the end of one of them there is no other
  pub outer_skip : (n m : ℕ) (fs : List Standing) (s : Standing) → AreOuterBefore x e n fs → Contains fs s → n ≤ m → m ≤ frame_end s →
      AreOuterBefore x e m fs
  outer_skip n m fs s h there low high = record {
    are = All-weaker (IsBefore x e n) (IsBefore x e m) (λ t before. before_later n m t low before) fs h.are;
    apart = h.apart;
    others = λ t before. elim (cases_lt t.offset n) [
      | inl first ↦ h.others t (record { in_extent = before.in_extent; before = first; stands = before.stands })
      | inr later ↦ inr
          (s, there, record { behind = omega (arith, later, (All-contains (IsBefore x e n) fs s h.are there).before); before = omega (arith, before.before, high) })
    ];
  }

  -- one more
  pub outer_push : (n : ℕ) (fs : List Standing) (s : Standing) → AreOuterBefore x e n fs → All (λ t. frame_end t ≤ n) fs →
      IsFrameHere x e n s → AreOuterBefore x e (n + 1) (fs ++ s ∷ [])
  outer_push n fs s h ends here = record {
    are =
        All-push (IsBefore x e (n + 1)) fs s
        (All-weaker (IsBefore x e n) (IsBefore x e (n + 1)) (λ t before. before_later n (n + 1) t (omega arith) before) fs h.are)
        (record { in_extent = here.in_extent; before = omega (arith, here.at_place); stands = here.stands });
    apart = all_pairs_push (λ a b. frame_end a ≤ b.offset) fs s h.apart (λ k d low. omega (arith, ends k d low, here.at_place));
    others = λ t before. elim (cases_lt t.offset n) [
      | inl first ↦ elim (h.others t (record { in_extent = before.in_extent; before = first; stands = before.stands })) [
        | inl among ↦ inl (Contains-append_left fs (s ∷ []) t among)
        | inr within ↦ inr (within.0, Contains-append_left fs (s ∷ []) within.0 within.1, within.2)
      ]
      | inr later ↦ inl
          (subst (Contains (fs ++ s ∷ []))
          (same_frame x s t (here.in_extent ∙ sym before.in_extent) (let same : s.offset ≡ t.offset = omega (arith, here.at_place, later, before.before) in same)
          here.stands before.stands)
          (Contains-push fs s))
    ];
  }

  -- none
  pub outer_same : (n : ℕ) (fs : List Standing) → AreOuterBefore x e n fs → ((s : Standing) → ¬ IsFrameHere x e n s) →
      AreOuterBefore x e (n + 1) fs
  outer_same n fs h none = record {
    are = All-weaker (IsBefore x e n) (IsBefore x e (n + 1)) (λ t before. before_later n (n + 1) t (omega arith) before) fs h.are;
    apart = h.apart;
    others = λ t before. elim (cases_lt t.offset n) [
      | inl first ↦ h.others t (record { in_extent = before.in_extent; before = first; stands = before.stands })
      | inr later ↦
          absurd (none t (record { in_extent = before.in_extent; at_place = omega (arith, later, before.before); stands = before.stands }))
    ];
  }

  -- one more, up to its end
  pub outer_step : (n m : ℕ) (fs : List Standing) (s : Standing) → AreOuterBefore x e n fs → All (λ t. frame_end t ≤ n) fs →
      IsFrameHere x e n s → m ≡ frame_end s → AreOuterBefore x e m (fs ++ s ∷ [])
  outer_step n m fs s h ends here is =
      outer_skip (n + 1) m (fs ++ s ∷ []) s (outer_push n fs s h ends here) (Contains-push fs s)
      (omega (arith, is, here.at_place, some_bytes s.form)) (omega (arith, is))

  pub ends_step : (n m : ℕ) (fs : List Standing) (s : Standing) → All (λ t. frame_end t ≤ n) fs → IsFrameHere x e n s → m ≡ frame_end s →
      All (λ t. frame_end t ≤ m) (fs ++ s ∷ [])
  ends_step n m fs s ends here is =
      All-push (λ t. frame_end t ≤ m) fs s
      (λ k d low. omega (arith, ends k d low, is, here.at_place)) (omega (arith, is))

-- ---- in an image

module _ (image : Image) (e : ℕ) where
  -- a frame of an extent in memory is one of the disk
  pub stands_there : (s : Standing) → e < image.geometry.extents → s.extent ≡ e → IsFrameIn (whole_extent image e) s → Stands image s
  stands_there s in_disk is h = record {
    payload = h.payload;
    has = record {
      in_disk = omega (arith, is, in_disk);
      frame = record {
        frame = subst (λ (f : ℕ). FrameAt (whole_extent image f) s.offset s.form s.uuid h.payload) (sym is) h.frame;
        length = h.length;
        digest = h.digest;
      };
    };
  }

  -- and the other way round
  pub before_end : (s : Standing) → s.extent ≡ e → Stands image s → IsBefore (whole_extent image e) e (extent_bytes image.geometry) s
  before_end s is h = record {
    in_extent = is;
    before = omega (arith, h.has.frame.frame.fits, some_bytes s.form);
    stands = record {
      payload = h.payload;
      frame = subst (λ (f : ℕ). FrameAt (whole_extent image f) s.offset s.form s.uuid h.payload) is h.has.frame.frame;
      length = h.has.frame.length;
      digest = h.has.frame.digest;
    };
  }

  -- the outer frames of a whole extent
  pub outer_of_extent : (fs : List Standing) → e < image.geometry.extents →
      AreOuterBefore (whole_extent image e) e (extent_bytes image.geometry) fs → AreOuterFrames image e fs
  outer_of_extent fs in_disk h = record {
    here =
        All-weaker (IsBefore (whole_extent image e) e (extent_bytes image.geometry)) (λ s. s.extent ≡ e)
        (λ s before. before.in_extent) fs h.are;
    stand =
        All-weaker (IsBefore (whole_extent image e) e (extent_bytes image.geometry)) (Stands image)
        (λ s before. stands_there s in_disk before.in_extent before.stands) fs h.are;
    apart = h.apart;
    others = λ t is stands. h.others t (before_end t is stands);
  }

  -- those of an extent that the disk doesn't have
  pub outer_outside : image.geometry.extents ≤ e → AreOuterFrames image e []
  outer_outside outside = record {
    here = λ k d low. absurd (omega (arith, low));
    stand = λ k d low. absurd (omega (arith, low));
    apart = λ i j d lt low. absurd (omega (arith, low));
    others = λ t is stands. absurd (omega (arith, is, stands.has.in_disk, outside));
  }

-- ---- there is one list

at_its_place : (fs : List Standing) (t d : Standing) (c : Contains fs t) → get_or fs c.0 d ≡ t
at_its_place fs t d c = get_or_default fs c.0 d t c.1 ∙ c.2

-- of frames that are apart, none begins within another one
pub not_within : (fs : List Standing) (s t : Standing) → AllPairs (λ a b. frame_end a ≤ b.offset) fs → Contains fs s → Contains fs t →
    ¬ BeginsWithin s t
not_within fs s t apart there here within = elim (cases_lt there.0 here.0) [
  | inl first ↦
      let le : frame_end s ≤ t.offset = ordered s t there here first in omega (arith, le, within.before)
  | inr later ↦ elim (cases_lt here.0 there.0) [
    | inl first ↦ let le : frame_end t ≤ s.offset = ordered t s here there first in omega (arith, le, within.behind)
    | inr equal ↦
        let same : there.0 ≡ here.0 = omega (arith, later, equal) in
        let is : s ≡ t = sym (at_its_place fs s s there) ∙ ap (λ k. get_or fs k s) same ∙ at_its_place fs t s here in
        omega (arith, within.behind, ap (λ (a : Standing). a.offset) is)
  ]
]
  where
    ordered : (a b : Standing) (c : Contains fs a) (d : Contains fs b) → c.0 < d.0 → frame_end a ≤ b.offset
    ordered a b c d lt =
        subst (λ (y : Standing). frame_end a ≤ y.offset) (at_its_place fs b a d)
        (subst (λ (y : Standing). frame_end y ≤ (get_or fs d.0 a).offset) (at_its_place fs a a c) (apart c.0 d.0 a lt d.1))

-- those of one list that begin in front of a place are in the other
agree : (image : Image) (e n : ℕ) (fs gs : List Standing) → AreOuterFrames image e fs → AreOuterFrames image e gs → (t : Standing) →
    t.offset < n → Contains fs t → Contains gs t
agree image e zero fs gs h k t low there = absurd (omega (arith, low))
agree image e (suc n) fs gs h k t low there =
    elim (k.others t (All-contains (λ s. s.extent ≡ e) fs t h.here there) (All-contains (Stands image) fs t h.stand there)) [
      | inl among ↦ among
      | inr within ↦
          absurd
          (not_within fs within.0 t h.apart (agree image e n gs fs k h within.0 (omega (arith, within.2.behind, low)) within.1) there within.2)
    ]

-- so an extent has one list of outer frames
pub one_outer : (image : Image) (e : ℕ) (fs gs : List Standing) → AreOuterFrames image e fs → AreOuterFrames image e gs → fs ≡ gs
one_outer image e fs gs h k =
    same_if_ordered (λ a b. frame_end a ≤ b.offset) (λ a b le more. omega (arith, le, more, some_bytes a.form, some_bytes b.form)) fs gs
    h.apart k.apart (λ t there. agree image e (t.offset + 1) fs gs h k t (omega arith) there)
    (λ t there. agree image e (t.offset + 1) gs fs k h t (omega arith) there)
