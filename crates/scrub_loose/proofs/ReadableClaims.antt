-- Readable claims at a place of an extent: there is at most one, a frame makes one, and whether there is one is decided
-- by the bytes of its head. Throughout, x is an extent, and p a place.
use Rattle.std.proofs.Common.{◌≡◌, ◌⊎◌, ◌<◌, ◌≤◌, ◌+◌, ◌-◌, ◌^◌, ℕ, List, ◌++◌, length, arith, refl, sym, ◌∙◌, ap, subst, Option, None, inl, inr}
use Rattle.list_facts.proofs.Decisions.{Decided, decided_at_most, decided_both, decided_less, decided_like, decided_none, decided_not, decided_number, some_below}
use Rattle.scrub_disk.specs.Image.{AreBytesAt}
use Rattle.scrub_frame.specs.declared.form.Form.{Form}
use Rattle.scrub_frame.specs.declared.frame.Head.{Head}
use Rattle.scrub_frame.specs.Frame.{frame_overhead, head, head_size, mark, payload_start, seal}
use Rattle.scrub_frame.specs.Matching.{form_in, length_in, uuid_in}
use Rattle.scrub_frame.proofs.Claims.{IsHead, form-in, length-in, uuid-in}
use Rattle.scrub_frame.proofs.Frames.{head-injective}
use Rattle.scrub_super.proofs.BytesHere.{bytes_here, decided_bytes_at, exactly, length-bytes_here}
use Rattle.scrub_scan.specs.Extent.{Extent, FrameAt, HasGap}
use Rattle.scrub_scan.specs.Standing.{IsClaimedAt}
use Rattle.scrub_scan.proofs.FrameBytes.{bytes_front, close_stands, length-head_of, no_gap, same_bytes, parts_stand}
use Rattle.scrub_loose.specs.Anywhere.{IsClaimedLength, IsReadableClaim}

-- two claims at a place are one
pub one_claim : (x : Extent) (p : ℕ) (h k : Head) → IsClaimedAt x p h → IsClaimedAt x p k → h ≡ k
one_claim x p h k a b =
    let is : head h.form h.uuid h.length ≡ head k.form k.uuid k.length =
    same_bytes x.byte p (head h.form h.uuid h.length) (head k.form k.uuid k.length)
    (length-head_of h.form h.uuid h.length a.sixteen ∙ sym (length-head_of k.form k.uuid k.length b.sixteen))
    a.head_stands b.head_stands in
    let same = head-injective h.form k.form h.uuid k.uuid h.length k.length a.sixteen b.sixteen a.short b.short is in
    λ i. record { form = same.0 i; uuid = same.1 i; length = same.2 i }

-- so they have one length
pub one_length : (x : Extent) (p m n : ℕ) → IsClaimedLength x p m → IsClaimedLength x p n → m ≡ n
one_length x p m n (inl a) (inl b) =
    a.2 ∙ ap (λ (h : Head). h.length) (one_claim x p a.0 b.0 a.1.claimed b.1.claimed) ∙ sym b.2
one_length x p m n (inl a) (inr b) = absurd (b.0 a.0 a.1)
one_length x p m n (inr a) (inl b) = absurd (a.0 b.0 b.1)
one_length x p m n (inr a) (inr b) = a.1 ∙ sym b.1

-- ---- frames

-- a frame is claimed, and can be read
pub claim_of_frame : (x : Extent) (p : ℕ) (f : Form) (u b : List ℕ) → FrameAt x p f u b →
    IsReadableClaim x p (record { form = f; uuid = u; length = length b })
claim_of_frame x p f u b k = record {
  claimed = record {
    sixteen = k.has_frame.sixteen;
    short = k.has_frame.short;
    head_stands = bytes_front x.byte p (head f u (length b)) (seal f b ++ (b ++ (u ++ mark f))) (parts_stand k);
    fits = k.fits;
    close_stands = close_stands x p (p + length b + payload_start f) f u b k refl;
  };
  readable = no_gap x p (length b + frame_overhead f) f u b k (omega arith);
}

-- where bytes can be read, those of a part of them can
pub no_gap_within : (at : ℕ → Option ℕ) (p n q m : ℕ) → ¬ HasGap at p n → p ≤ q → q + m ≤ p + n → ¬ HasGap at q m
no_gap_within at p n q m whole low high gap =
    whole (record { place = gap.place; low = omega (arith, low, gap.low); high = omega (arith, high, gap.high); unreadable = gap.unreadable })

-- ---- that it is decided

-- a byte among some can't be read, or all can
pub decided_gap : (at : ℕ → Option ℕ) (p n : ℕ) → Decided (HasGap at p n)
decided_gap at p n = elim (some_below (λ k. at (p + k) ≡ None) (λ k. decided_none (at (p + k))) n) [
  | inl lost ↦ inl (record { place = p + lost.0; low = omega arith; high = omega (arith, lost.1); unreadable = lost.2 })
  | inr none ↦ inr (λ gap.
      none (gap.place - p) (omega (arith, gap.low, gap.high))
      (ap at (let e : p + (gap.place - p) ≡ gap.place = omega (arith, gap.low) in e) ∙ gap.unreadable))
]

-- the parts of a readable claim
abbrev Sizes : Head → Type 0
Sizes h = (length h.uuid ≡ 16) × (h.length < 2 ^ 32)

abbrev Ends : Extent → ℕ → Head → Type 0
Ends x p h =
    AreBytesAt x.byte p (head h.form h.uuid h.length)
    × AreBytesAt x.byte (p + h.length + payload_start h.form) (h.uuid ++ mark h.form)

abbrev Room : Extent → ℕ → Head → Type 0
Room x p h = (p + h.length + frame_overhead h.form ≤ x.pointer) × ¬ HasGap x.byte p (h.length + frame_overhead h.form)

decided_claim : (x : Extent) (p : ℕ) (h : Head) → Decided (IsReadableClaim x p h)
decided_claim x p h =
    let sizes : Decided (Sizes h) = decided_both (decided_number (length h.uuid) 16) (decided_less h.length (2 ^ 32)) in
    let ends : Decided (Ends x p h) =
    decided_both (decided_bytes_at x.byte p (head h.form h.uuid h.length))
    (decided_bytes_at x.byte (p + h.length + payload_start h.form) (h.uuid ++ mark h.form)) in
    let room : Decided (Room x p h) =
    decided_both (decided_at_most (p + h.length + frame_overhead h.form) x.pointer)
    (decided_not (decided_gap x.byte p (h.length + frame_overhead h.form))) in
    let rest : Decided (Ends x p h × Room x p h) = decided_both ends room in
    let all : Decided (Sizes h × (Ends x p h × Room x p h)) = decided_both sizes rest in
    decided_like all
    (λ d. record {
      claimed = record { sixteen = d.0.0; short = d.0.1; head_stands = d.1.0.0; fits = d.1.1.0; close_stands = d.1.0.1 };
      readable = d.1.1.1;
    })
    (λ c. (
      (c.claimed.sixteen, c.claimed.short),
      ((c.claimed.head_stands, c.claimed.close_stands), (c.claimed.fits, c.readable)),
    ))

module _ (x : Extent) (p : ℕ) where
  abbrev head_bytes : List ℕ
  head_bytes = bytes_here x.byte p head_size

  -- the only head that may be claimed there
  abbrev head_here : Head
  head_here = record { form = form_in head_bytes; uuid = uuid_in head_bytes; length = length_in head_bytes }

  only_that : (h : Head) → IsClaimedAt x p h → head_here ≡ h
  only_that h k = λ i. record { form = form-in is i; uuid = uuid-in is i; length = length-in is i }
    where
      is : IsHead head_bytes h.form h.uuid h.length
      is = record {
        whole = length-bytes_here x.byte p head_size;
        short = k.short;
        is =
            exactly x.byte p head_size (head h.form h.uuid h.length) k.head_stands
            (sym (length-head_of h.form h.uuid h.length k.sixteen));
      }

  -- At each place is a readable claim, or none.
  pub some_claim : ((h : Head) × IsReadableClaim x p h) ⊎ ((h : Head) → ¬ IsReadableClaim x p h)
  some_claim = elim (decided_claim x p head_here) [
    | inl claim ↦ inl (head_here, claim)
    | inr none ↦ inr (λ h k. none (subst (IsReadableClaim x p) (sym (only_that h k.claimed)) k))
  ]

  -- so each place has a claimed length
  pub some_length : (n : ℕ) × IsClaimedLength x p n
  some_length = elim some_claim [
    | inl claim ↦ (claim.0.length, inl (claim.0, claim.1, refl))
    | inr none ↦ (0, inr (none, refl))
  ]
