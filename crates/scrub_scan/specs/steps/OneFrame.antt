-- At most one frame is at a place, and one magic.
use Rattle.std.proofs.Common.{◌≡◌, ◌≤◌, ◌+◌, ℕ, List, [], length, get_or, drop, arith, refl, sym, ◌∙◌, inl, inr, Option}
use Rattle.std.proofs.lemmas.Bool.{cases_lt}
use Rattle.std.proofs.lemmas.Option.{same_Some}
use Rattle.std.proofs.lemmas.List.{append-nil}
use Rattle.std.proofs.lemmas.List.Prefix.{front_from_reads}
use Rattle.scrub_frame.specs.declared.form.Form.{Form}
use Rattle.scrub_frame.specs.declared.form.Form.TheVariants.{Plain, Sealed}
use Rattle.scrub_frame.specs.Frame.{magic, frame_of, frame_overhead}
use Rattle.scrub_frame.proofs.Frames.{one_frame_lem, length-frame}
use Rattle.scrub_disk.specs.Image.{Image, AreBytesAt}
use Rattle.scrub_scan.specs.Extent.{Extent, extent_of, FrameAt}

-- lemma: two frames at a place are one, if the second is at least as long as the first
shorter_frame : (x : Extent) (p : ℕ) (f : Form) (u b : List ℕ) (g : Form) (v c : List ℕ) → frame_overhead f + length b ≤ frame_overhead g + length c → FrameAt x p f u b → FrameAt x p g v c → (f ≡ g) × (u ≡ v) × (b ≡ c)
shorter_frame x p f u b g v c le h k =
    let lu : length (frame_of f u b) ≡ frame_overhead f + length b = length-frame f u b h.has_frame.sixteen in
    let lv : length (frame_of g v c) ≡ frame_overhead g + length c = length-frame g v c k.has_frame.sixteen in
    one_frame_lem (frame_of g v c) f u b g v c
    (record {
      has_frame = h.has_frame;
      rest = drop (length (frame_of f u b)) (frame_of g v c);
      spelled = front_from_reads 0 (frame_of g v c) (frame_of f u b) (omega (arith, lu, lv, le))
          (λ i hi. same_Some (get_or (frame_of g v c) i 0) (get_or (frame_of f u b) i 0) (sym (k.stands i (omega (arith, hi, lu, lv, le))) ∙ h.stands i hi));
    })
    (record { has_frame = k.has_frame; rest = []; spelled = sym (append-nil (frame_of g v c)) })

-- lemma: two frames at a place are one
pub one_frame_at : (x : Extent) (p : ℕ) (f : Form) (u b : List ℕ) (g : Form) (v c : List ℕ) → FrameAt x p f u b → FrameAt x p g v c → (f ≡ g) × (u ≡ v) × (b ≡ c)
one_frame_at x p f u b g v c h k = elim (cases_lt (frame_overhead g + length c) (frame_overhead f + length b)) [
  | inl less ↦ let r : (g ≡ f) × (v ≡ u) × (c ≡ b) = shorter_frame x p g v c f u b (omega (arith, less)) k h in (sym r.0, sym r.1, sym r.2)
  | inr le ↦ shorter_frame x p f u b g v c le h k
]

-- lemma: a frame under a pointer is there under each greater pointer
pub under_greater : (image : Image) (e v w p : ℕ) (f : Form) (u b : List ℕ) → v ≤ w → FrameAt (extent_of image e v) p f u b → FrameAt (extent_of image e w) p f u b
under_greater image e v w p f u b le h = record { has_frame = h.has_frame; fits = omega (arith, le, h.fits); stands = h.stands }

-- lemma: two frames at a place are one, under two pointers too
pub one_frame_under : (image : Image) (e v w p : ℕ) (f : Form) (t b : List ℕ) (g : Form) (u c : List ℕ) → FrameAt (extent_of image e v) p f t b → FrameAt (extent_of image e w) p g u c → (f ≡ g) × (t ≡ u) × (b ≡ c)
one_frame_under image e v w p f t b g u c h k =
    one_frame_at (extent_of image e (v + w)) p f t b g u c
    (under_greater image e v (v + w) p f t b (omega arith) h)
    (under_greater image e w (v + w) p g u c (omega arith) k)

-- lemma: at most one magic is at a place
pub one_magic_at : (at : ℕ → Option ℕ) (p : ℕ) (f g : Form) → AreBytesAt at p (magic f) → AreBytesAt at p (magic g) → f ≡ g
one_magic_at at p Plain Plain h k = refl
one_magic_at at p Plain Sealed h k =
    let e : 0x5E ≡ 0x5F = same_Some 0x5E 0x5F (sym (h 1 (omega arith)) ∙ k 1 (omega arith)) in
    absurd (let z : ⊥ = omega (arith, e) in z)
one_magic_at at p Sealed Plain h k =
    let e : 0x5F ≡ 0x5E = same_Some 0x5F 0x5E (sym (h 1 (omega arith)) ∙ k 1 (omega arith)) in
    absurd (let z : ⊥ = omega (arith, e) in z)
one_magic_at at p Sealed Sealed h k = refl
