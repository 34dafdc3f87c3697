-- The bytes of an extent in memory: they are those of the image, and which of them can be read. Throughout, P is the size
-- of a page, and x the extent that bytes and marks of pages spell.
use Rattle.std.proofs.Common.{Option, ◌≡◌, ◌<◌, ◌≤◌, ◌+◌, ◌*◌, ◌/◌, ◌%◌, ◌-◌, ◌&&◌, ℕ, zero, suc, Bool, true, false, cond, List, [], ◌∷◌, ◌++◌, length, get_or, take, drop, slice_get, Some, None, option_and_then, arith, refl, sym, ◌∙◌, ap, subst, inl, inr}
use Rattle.std.specs.List.{between}
use Rattle.std.proofs.Math.Nat.{mod-lt, mul-le-mul_right, div-mul-le_self}
use Rattle.std.proofs.lemmas.Bool.{cases_lt, le-ltb, lt-ltb}
use Rattle.std.proofs.lemmas.List.{get_or-drop, get_or-take, get_or_append_left, get_or_default, get_or_push, length-take-le, same_lists}
use Rattle.std.proofs.lemmas.Nat.{div-add-mod', div-mul-add, div_below, le-div}
use Rattle.std.proofs.lemmas.Option.{none-some, same_Some}
use Rattle.std.proofs.Common.{length-drop}
use Rattle.list_facts.proofs.Arithmetic.{div_rises}
use Rattle.scrub_disk.specs.Buffered.{IsBuffered}
use Rattle.scrub_disk.specs.Image.{AreBytesAt, Image, extent_bytes, image_byte}
use Rattle.scrub_disk.proofs.HeldBytes.{in_page}
use Rattle.scrub_scan.specs.Extent.{Extent, HasGap}
use Rattle.scrub_loose.specs.Anywhere.{whole_extent}
use Rattle.scrub_loose.specs.steps.Held.{AreSince, IsSince, extent_by}

-- ---- runs of readable pages

-- from page s on all pages in front of page n can be read, and the one before s can't
pub record IsOpen (readable : List Bool) (n s : ℕ) : Type 0 where
  pub low : s ≤ n
  pub each : (k : ℕ) → s ≤ k → k < n → get_or readable k false ≡ true
  pub lost : (k : ℕ) → s ≡ k + 1 → get_or readable k false ≡ false

-- one more that can be read
pub since_read : (readable : List Bool) (n s : ℕ) → IsOpen readable n s → get_or readable n false ≡ true → IsSince readable n s
since_read readable n s h is = record {
  low = omega (arith, h.low);
  each = λ k low below. elim (cases_lt k n) [
    | inl before ↦ h.each k low before
    | inr from ↦ ap (λ m. get_or readable m false) (let e : k ≡ n = omega (arith, from, below) in e) ∙ is
  ];
  lost = h.lost;
}

-- one that can't
pub since_lost : (readable : List Bool) (n : ℕ) → get_or readable n false ≡ false → IsSince readable n (n + 1)
since_lost readable n is = record {
  low = omega arith;
  each = λ k low below. absurd (omega (arith, low, below));
  lost = λ k e. ap (λ m. get_or readable m false) (let f : k ≡ n = omega (arith, e) in f) ∙ is;
}

-- and then there is one more
pub open_more : (readable : List Bool) (n s : ℕ) → IsSince readable n s → IsOpen readable (n + 1) s
open_more readable n s h = record { low = h.low; each = λ k low below. h.each k low (omega (arith, below)); lost = h.lost }

-- the list of where they begin grows by it
pub since_more : (readable : List Bool) (n s : ℕ) (since new : List ℕ) → length since ≡ n → new ≡ since ++ s ∷ [] →
    ((q : ℕ) → q < n → IsSince readable q (get_or since q 0)) → IsSince readable n s → (q : ℕ) → q < n + 1 →
    IsSince readable q (get_or new q 0)
since_more readable n s since new size is each here q below = elim (cases_lt q n) [
  | inl before ↦
      subst (IsSince readable q) (sym (ap (λ (l : List ℕ). get_or l q 0) is ∙ get_or_append_left since (s ∷ []) 0 q (omega (arith, before, size))))
      (each q before)
  | inr from ↦
      let e : n ≡ q = omega (arith, from, below) in
      subst (λ m. IsSince readable m (get_or new m 0)) e
      (subst (IsSince readable n) (sym (ap (λ (l : List ℕ). get_or l n 0) is ∙ get_or_push since s 0 n size)) here)
]

-- ---- bytes

module _ (P : ℕ) (bytes : List ℕ) (readable : List Bool) where
  abbrev x : Extent
  x = extent_by P bytes readable

  -- a byte of the extent, if its page can be read
  byte_here : (p : ℕ) → p < length bytes → x.byte p ≡ cond (get_or readable (p / P) false) (Some (get_or bytes p 0)) None
  byte_here p low = ap (λ t. cond (t && get_or readable (p / P) false) (Some (get_or bytes p 0)) None) (lt-ltb p (length bytes) low)

  -- there is none behind it
  byte_behind : (p : ℕ) → length bytes ≤ p → x.byte p ≡ None
  byte_behind p high = ap (λ t. cond (t && get_or readable (p / P) false) (Some (get_or bytes p 0)) None) (le-ltb p (length bytes) high)

  -- a byte of a readable page
  byte_read : (p : ℕ) → p < length bytes → get_or readable (p / P) false ≡ true → x.byte p ≡ Some (get_or bytes p 0)
  byte_read p low is = byte_here p low ∙ ap (λ t. cond t (Some (get_or bytes p 0)) None) is

  -- one of another page
  byte_lost : (p : ℕ) → get_or readable (p / P) false ≡ false → x.byte p ≡ None
  byte_lost p is = elim (cases_lt p (length bytes)) [
    | inl low ↦ byte_here p low ∙ ap (λ t. cond t (Some (get_or bytes p 0)) None) is
    | inr high ↦ byte_behind p high
  ]

  -- a byte that can be read
  pub byte_some : (p v : ℕ) → x.byte p ≡ Some v → (p < length bytes) × (get_or bytes p 0 ≡ v)
  byte_some p v is = elim (cases_lt p (length bytes)) [
    | inl low ↦ (low, by (get_or readable (p / P) false) (sym (byte_here p low) ∙ is))
    | inr high ↦ absurd (none-some v (sym (byte_behind p high) ∙ is))
  ]
    where
      by : (t : Bool) → cond t (Some (get_or bytes p 0)) None ≡ Some v → get_or bytes p 0 ≡ v
      by true e = same_Some (get_or bytes p 0) v e
      by false e = absurd (none-some v e)

  -- bytes that are there are those of the list
  pub bytes_held : (p : ℕ) (ys : List ℕ) → AreBytesAt x.byte p ys → take (length ys) (drop p bytes) ≡ ys
  bytes_held p ys h = same_lists (take (length ys) (drop p bytes)) ys size (λ k d below.
      let low : k < length ys = omega (arith, below, size) in
      let at = byte_some (p + k) (get_or ys k 0) (h k low) in
      get_or-take (length ys) (drop p bytes) k d low ∙ get_or-drop p bytes k d
      ∙ get_or_default bytes (p + k) d 0 at.0 ∙ at.1 ∙ get_or_default ys k 0 d low)
    where
      enough : (n : ℕ) → n ≤ length ys → n ≤ length (drop p bytes)
      enough zero le = omega arith
      enough (suc n) le =
          let at = byte_some (p + n) (get_or ys n 0) (h n (omega (arith, le))) in
          omega (arith, at.0, length-drop p bytes)

      size : length (take (length ys) (drop p bytes)) ≡ length ys
      size = length-take-le (length ys) (drop p bytes) (enough (length ys) (omega arith))

  -- and those of the list are there, if they can be read
  pub held_bytes : (p n : ℕ) → p + n ≤ length bytes → ¬ HasGap x.byte p n → AreBytesAt x.byte p (take n (drop p bytes))
  held_bytes p n fits whole k below =
      let size : length (take n (drop p bytes)) ≡ n = length-take-le n (drop p bytes) (omega (arith, length-drop p bytes, fits)) in
      let low : k < n = omega (arith, below, size) in
      let within : p + k < length bytes = omega (arith, low, fits) in
      by (get_or readable ((p + k) / P) false) refl within low
      ∙ ap Some (sym (get_or-take n (drop p bytes) k 0 low ∙ get_or-drop p bytes k 0))
    where
      by : (t : Bool) → get_or readable ((p + k) / P) false ≡ t → p + k < length bytes → k < n → x.byte (p + k) ≡ Some (get_or bytes (p + k) 0)
      by true is within low = byte_read (p + k) within is
      by false is within low =
          absurd (whole (record { place = p + k; low = omega arith; high = omega (arith, low); unreadable = byte_lost (p + k) is }))

  -- ---- gaps

  module _ (positive : 1 ≤ P) (size : length bytes ≡ P * length readable) (since : List ℕ) (are : AreSince readable since)
      (p n : ℕ) (some : 1 ≤ n) (fits : p + n ≤ length bytes) where
    abbrev last : ℕ
    last = (p + n - 1) / P

    -- their last page is in the extent
    pub page_there : last < length readable
    page_there = div_below (p + n - 1) P (length readable) positive (omega (arith, size, fits, some))

    -- bytes can be read if the run of readable pages that ends with their last page begins in front of them
    pub readable_if : get_or since last 0 * P ≤ p → ¬ HasGap x.byte p n
    readable_if low gap =
        let run = are.each last page_there in
        let from = le-div (get_or since last 0) gap.place P positive (omega (arith, low, gap.low)) in
        let to = div_rises gap.place (p + n - 1) P positive (omega (arith, gap.high, some)) in
        none-some (get_or bytes gap.place 0)
        (sym gap.unreadable ∙ byte_read gap.place (omega (arith, gap.high, fits)) (run.each (gap.place / P) from to))

    -- else one of them can't
    pub lost_if : p < get_or since last 0 * P → HasGap x.byte p n
    lost_if less = by (get_or since last 0) refl less
      where
        by : (s : ℕ) → get_or since last 0 ≡ s → p < s * P → HasGap x.byte p n
        by zero is low = absurd (omega (arith, low))
        by (suc k) is low = elim (cases_lt p (k * P)) [
          | inl before ↦ record {
            place = k * P;
            low = omega (arith, before);
            high = omega (arith, start);
            unreadable = at 0 (omega (arith, positive)) (let e : k * P ≡ k * P + 0 = omega arith in e);
          }
          | inr from ↦ record {
            place = p;
            low = omega arith;
            high = omega (arith, some);
            unreadable = at (p - k * P) (omega (arith, low, from)) (let e : p ≡ k * P + (p - k * P) = omega (arith, from) in e);
          }
        ]
          where
            run : IsSince readable last (get_or since last 0)
            run = are.each last page_there

            lost : get_or readable k false ≡ false
            lost = run.lost k (omega (arith, is))

            start : k * P ≤ p + n - 1
            start =
                let le : k ≤ last = omega (arith, run.low, is) in
                let up : k * P ≤ last * P = mul-le-mul_right P le in
                omega (arith, up, div-mul-le_self (p + n - 1) P)

            at : {q : ℕ} (r : ℕ) → r < P → q ≡ k * P + r → x.byte q ≡ None
            at {q} r below e =
                byte_lost q (ap (λ m. get_or readable m false) (ap (λ m. m / P) e ∙ div-mul-add k P r below) ∙ lost)

-- ---- the image's

-- bytes in the order of an image's pages, and which of these can be read
module _ (image : Image) (e : ℕ) (bytes : List ℕ) (readable : List Bool) (h : IsBuffered image e bytes readable) where
  abbrev P : ℕ
  P = image.geometry.page

  -- byte p of the image, if that is in the extent
  abbrev in_image : ℕ → Option ℕ
  in_image p = option_and_then (λ s. slice_get s (p % P)) (image.page e (p / P))

  -- the bytes of a page
  abbrev page_at : ℕ → List ℕ
  page_at q = between (q * P) (q * P + P) bytes

  inside : (p : ℕ) → p < length bytes → cond (get_or readable (p / P) false) (Some (get_or bytes p 0)) None ≡ in_image p
  inside p low =
      by_mark (get_or readable (p / P) false)
      (in_page bytes (p / P) P (p % P) (mod-lt p positive) fits ∙ ap (λ m. Some (get_or bytes m 0)) (div-add-mod' p P))
      ∙ ap (option_and_then (λ s. slice_get s (p % P))) (sym (h.pages (p / P) below))
    where
      positive : 1 ≤ P
      positive = omega (arith, image.geometry.page_least)

      below : p / P < image.geometry.pages
      below = div_below p P image.geometry.pages positive (omega (arith, low, h.size))

      fits : p / P * P + P ≤ length bytes
      fits =
          let next : p / P + 1 ≤ image.geometry.pages = omega (arith, below) in
          let up : (p / P + 1) * P ≤ image.geometry.pages * P = mul-le-mul_right P next in
          omega (arith, up, h.size)

      by_mark : (b : Bool) → slice_get (page_at (p / P)) (p % P) ≡ Some (get_or bytes p 0) →
          cond b (Some (get_or bytes p 0)) None ≡ option_and_then (λ s. slice_get s (p % P)) (cond b (Some (page_at (p / P))) None)
      by_mark true is = sym is
      by_mark false is = refl

  same_byte : (p : ℕ) → (extent_by P bytes readable).byte p ≡ image_byte image e p
  same_byte p = elim (cases_lt p (length bytes)) [
    | inl low ↦
        byte_here P bytes readable p low ∙ inside p low
        ∙ sym (ap (λ t. cond t (in_image p) None) (lt-ltb p (extent_bytes image.geometry) (omega (arith, low, h.size))))
    | inr high ↦
        byte_behind P bytes readable p high
        ∙ sym (ap (λ t. cond t (in_image p) None) (le-ltb p (extent_bytes image.geometry) (omega (arith, high, h.size))))
  ]

  -- The extent in memory is that of the image.
  pub extent_read : (page : ℕ) → page ≡ image.geometry.page → extent_by page bytes readable ≡ whole_extent image e
  extent_read page is =
      ap (λ m. extent_by m bytes readable) is ∙ (λ i. record { byte = λ p. same_byte p i; page = P; pointer = h.size i })
