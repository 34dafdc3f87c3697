-- Claims that bytes begin with, and readable claims at a place of an extent in memory. Throughout, y and z are bytes.
use Rattle.std.proofs.Common.{◌≡◌, ◌<◌, ◌≤◌, ◌+◌, ◌-◌, ℕ, Bool, List, ◌++◌, length, take, drop, get_or, arith, refl, sym, ◌∙◌, ap, subst, Option, Some, length-append, length-drop}
use Rattle.std.proofs.Math.Seq.{get_or-append_right}
use Rattle.std.proofs.lemmas.List.{drop-drop, length-take-le, take_all}
use Rattle.scrub_disk.specs.Image.{AreBytesAt}
use Rattle.scrub_frame.specs.declared.form.Form.{Form}
use Rattle.scrub_frame.specs.declared.frame.Head.{Head}
use Rattle.scrub_frame.specs.declared.form.Form.TheVariants.{Plain, Sealed}
use Rattle.scrub_frame.specs.Frame.{close_size, frame_overhead, head, head_size, mark, payload_start, seal, seal_size}
use Rattle.scrub_frame.proofs.Frames.{BeginsWithHead, head-injective, length-close, length-seal, overhead}
use Rattle.scrub_scan.specs.Extent.{Extent, FrameAt, HasGap, NoFrameAt}
use Rattle.scrub_scan.proofs.Claims.{claimed_frame, only_frame}
use Rattle.scrub_scan.proofs.FrameBytes.{bytes_front, from_payload, length-head_of, parts_stand}
use Rattle.scrub_loose.specs.Anywhere.{IsReadableClaim}
use Rattle.scrub_loose.specs.steps.Held.{BeginsWithClaim, extent_by}
use Rattle.scrub_loose.proofs.BytesInMemory.{byte_some, bytes_held, held_bytes}
use Rattle.scrub_loose.proofs.ReadableClaims.{no_gap_within}

-- ---- what bytes begin with

same_claim : (y u : List ℕ) (f : Form) (n : ℕ) (h : Head) → BeginsWithHead y f u n → BeginsWithClaim y h →
    (f ≡ h.form) × (u ≡ h.uuid) × (n ≡ h.length)
same_claim y u f n h k c =
    head-injective f h.form u h.uuid n h.length k.sixteen c.sixteen k.short c.short (sym k.head_is ∙ c.head_is)

-- bytes that are shorter than their head says begin with no claim
pub too_short : (y u : List ℕ) (f : Form) (n : ℕ) (h : Head) → BeginsWithHead y f u n → length y < payload_start f + n + close_size f →
    ¬ BeginsWithClaim y h
too_short y u f n h k short c =
    let same = same_claim y u f n h k c in
    omega (arith, short, c.enough, same.2, overhead f, ap frame_overhead same.0)

-- nor do bytes with something else where the frame would close
pub other_close : (y u : List ℕ) (f : Form) (n : ℕ) (h : Head) → BeginsWithHead y f u n →
    (take (close_size f) (drop (payload_start f + n) y) ≡ u ++ mark f → ⊥) → ¬ BeginsWithClaim y h
other_close y u f n h k differs c =
    let same = same_claim y u f n h k c in
    differs
    (ap (λ (g : Form). take (close_size g) (drop (payload_start g + n) y)) same.0
    ∙ ap (λ m. take (close_size h.form) (drop (payload_start h.form + m) y)) same.2
    ∙ c.close_is
    ∙ sym (ap (λ (v : List ℕ). v ++ mark f) same.1 ∙ ap (λ (g : Form). h.uuid ++ mark g) same.0))

-- bytes begin with one claim
pub one_begun : (y : List ℕ) (h k : Head) → BeginsWithClaim y h → BeginsWithClaim y k → h ≡ k
one_begun y h k a b =
    let same = head-injective h.form k.form h.uuid k.uuid h.length k.length a.sixteen b.sixteen a.short b.short (sym a.head_is ∙ b.head_is) in
    λ i. record { form = same.0 i; uuid = same.1 i; length = same.2 i }

-- ---- at a place

-- the bytes from a place on
pub from_place : (ys zs : List ℕ) (p : ℕ) → ys ≡ zs → take (length ys - p) (drop p ys) ≡ drop p zs
from_place ys zs p is = take_all (length ys - p) (drop p ys) (omega (arith, length-drop p ys)) ∙ ap (drop p) is

bytes_behind : (at : ℕ → Option ℕ) (p q : ℕ) (ys zs : List ℕ) → q ≡ p + length ys → AreBytesAt at p (ys ++ zs) → AreBytesAt at q zs
bytes_behind at p q ys zs e h k below =
    ap at (let i : q + k ≡ p + (length ys + k) = omega (arith, e) in i)
    ∙ h (length ys + k) (omega (arith, below, length-append ys zs))
    ∙ ap Some
    (get_or-append_right ys zs (length ys + k) 0 (omega arith) ∙ ap (λ n. get_or zs n 0) (let i : length ys + k - length ys ≡ k = omega arith in i))

-- a payload, as code cuts it out of an extent
pub cut_payload : (ys zs : List ℕ) (f : Form) (p s n : ℕ) → ys ≡ zs → s ≡ payload_start f →
    take (p + s + n - (p + s)) (drop (p + s) ys) ≡ take n (drop (p + payload_start f) zs)
cut_payload ys zs f p s n same is =
    ap (λ (l : List ℕ). take (p + s + n - (p + s)) (drop (p + s) l)) same
    ∙ ap (λ j. take (p + j + n - (p + j)) (drop (p + j) zs)) is
    ∙ ap (λ j. take j (drop (p + payload_start f) zs)) (let e : p + payload_start f + n - (p + payload_start f) ≡ n = omega arith in e)

-- the payload of a frame, in memory
pub payload_held : (P : ℕ) (bytes : List ℕ) (readable : List Bool) (p : ℕ) (f : Form) (u b : List ℕ) → FrameAt (extent_by P bytes readable) p f u b →
    take (length b) (drop (p + payload_start f) bytes) ≡ b
payload_held P bytes readable p f u b k =
    bytes_held P bytes readable (p + payload_start f) b
    (bytes_front (extent_by P bytes readable).byte (p + payload_start f) b (u ++ mark f) (from_payload (extent_by P bytes readable) p f u b k))

module _ (P : ℕ) (bytes : List ℕ) (readable : List Bool) (p : ℕ) (h : Head) where
  abbrev x : Extent
  x = extent_by P bytes readable

  -- how many bytes its frame has
  abbrev whole : ℕ
  whole = h.length + frame_overhead h.form

  -- a part of its frame is there, if all of that can be read
  part_stands : ¬ HasGap x.byte p whole → p + whole ≤ length bytes → (q n : ℕ) → p ≤ q → q + n ≤ p + whole →
      AreBytesAt x.byte q (take n (drop q bytes))
  part_stands can fits q n low high = held_bytes P bytes readable q n (omega (arith, high, fits)) (no_gap_within x.byte p whole q n can low high)

  -- from a claim's place on the bytes begin with it
  pub claim_begins : IsReadableClaim x p h → BeginsWithClaim (drop p bytes) h
  claim_begins c = record {
    sixteen = c.claimed.sixteen;
    short = c.claimed.short;
    head_is =
        ap (λ m. take m (drop p bytes)) (sym (length-head_of h.form h.uuid h.length c.claimed.sixteen))
        ∙ bytes_held P bytes readable p (head h.form h.uuid h.length) c.claimed.head_stands;
    enough = omega (arith, c.claimed.fits, length-drop p bytes);
    close_is =
        ap (λ m. take m (drop (payload_start h.form + h.length) (drop p bytes))) (sym (length-close h.form h.uuid c.claimed.sixteen))
        ∙ ap (take (length (h.uuid ++ mark h.form))) (drop-drop (payload_start h.form + h.length) p bytes ∙ ap (λ m. drop m bytes) place)
        ∙ bytes_held P bytes readable (p + h.length + payload_start h.form) (h.uuid ++ mark h.form) c.claimed.close_stands;
  }
    where
      place : p + (payload_start h.form + h.length) ≡ p + h.length + payload_start h.form
      place = omega arith

  -- and if they do, and can be read, it is there
  pub claim_there : p ≤ length bytes → BeginsWithClaim (drop p bytes) h → ¬ HasGap x.byte p whole → IsReadableClaim x p h
  claim_there within c can = record {
    claimed = record {
      sixteen = c.sixteen;
      short = c.short;
      head_stands =
          subst (AreBytesAt x.byte p) c.head_is (part_stands can room p head_size (omega arith) (omega (arith, overhead h.form)));
      fits = omega (arith, room);
      close_stands =
          subst (AreBytesAt x.byte (p + h.length + payload_start h.form))
          (ap (take (close_size h.form)) (ap (λ m. drop m bytes) place ∙ sym (drop-drop (payload_start h.form + h.length) p bytes)) ∙ c.close_is)
          (part_stands can room (p + h.length + payload_start h.form) (close_size h.form) (omega arith) (omega (arith, overhead h.form)));
    };
    readable = can;
  }
    where
      room : p + whole ≤ length bytes
      room = omega (arith, within, c.enough, length-drop p bytes)

      place : p + h.length + payload_start h.form ≡ p + (payload_start h.form + h.length)
      place = omega arith

  -- it begins with a frame's first byte
  pub claim_first : IsReadableClaim x p h → get_or bytes p 0 ≡ 0xC5
  claim_first c =
      let at : x.byte (p + 0) ≡ Some (get_or (head h.form h.uuid h.length) 0 0) =
      c.claimed.head_stands 0 (omega (arith, length-head_of h.form h.uuid h.length c.claimed.sixteen)) in
      ap (λ m. get_or bytes m 0) (let e : p ≡ p + 0 = omega arith in e)
      ∙ (byte_some P bytes readable (p + 0) (get_or (head h.form h.uuid h.length) 0 0) at).1 ∙ first h.form
    where
      first : (f : Form) → get_or (head f h.uuid h.length) 0 0 ≡ 0xC5
      first Plain = refl
      first Sealed = refl

  -- ---- its frame

  abbrev its_seal : List ℕ
  its_seal = take (seal_size h.form) (drop (p + head_size) bytes)

  abbrev its_payload : List ℕ
  its_payload = take h.length (drop (p + payload_start h.form) bytes)

  -- the payload has the claimed length
  pub length-payload : IsReadableClaim x p h → length its_payload ≡ h.length
  length-payload c =
      length-take-le h.length (drop (p + payload_start h.form) bytes)
      (omega (arith, length-drop (p + payload_start h.form) bytes, c.claimed.fits, overhead h.form))

  -- with its payload's seal, a claim is of a frame
  pub frame_sealed : IsReadableClaim x p h → its_seal ≡ seal h.form its_payload → FrameAt x p h.form h.uuid its_payload
  frame_sealed c is =
      claimed_frame x p h its_seal its_payload c.claimed (sym (length-payload c)) is
      (part_stands c.readable room (p + head_size) (seal_size h.form) (omega arith) (omega (arith, overhead h.form)))
      (part_stands c.readable room (p + payload_start h.form) h.length (omega arith) (omega (arith, overhead h.form)))
    where
      room : p + whole ≤ length bytes
      room = omega (arith, c.claimed.fits)

  -- with another one, there is none
  pub no_frame_sealed : IsReadableClaim x p h → (its_seal ≡ seal h.form its_payload → ⊥) → NoFrameAt x p
  no_frame_sealed c differs f u b k =
      differs
      (ap (λ (g : Form). take (seal_size g) (drop (p + head_size) bytes)) same.0 ∙ seal_read
      ∙ sym (ap (seal h.form) payload_is ∙ ap (λ (g : Form). seal g b) same.0))
    where
      same : (h.form ≡ f) × (h.uuid ≡ u) × (h.length ≡ length b)
      same = only_frame x p h c.claimed f u b k

      payload_is : take h.length (drop (p + payload_start h.form) bytes) ≡ b
      payload_is =
          ap (λ m. take m (drop (p + payload_start h.form) bytes)) same.2
          ∙ ap (λ (g : Form). take (length b) (drop (p + payload_start g) bytes)) same.0
          ∙ payload_held P bytes readable p f u b k

      seal_read : take (seal_size f) (drop (p + head_size) bytes) ≡ seal f b
      seal_read =
          ap (λ m. take m (drop (p + head_size) bytes)) (sym (length-seal f b))
          ∙ bytes_held P bytes readable (p + head_size) (seal f b)
          (bytes_front x.byte (p + head_size) (seal f b) (b ++ (u ++ mark f))
          (bytes_behind x.byte p (p + head_size) (head f u (length b)) (seal f b ++ (b ++ (u ++ mark f)))
          (omega (arith, length-head_of f u (length b) k.has_frame.sixteen)) (parts_stand k)))
