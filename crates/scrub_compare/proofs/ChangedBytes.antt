-- The bytes of two extents that were read are those of the images, and the tests on them decide what may change.
use Rattle.std.proofs.Common.{◌≡◌, ◌≢◌, ◌⊎◌, ◌<◌, ◌≤◌, ◌+◌, ◌*◌, ◌/◌, ◌%◌, ◌-◌, ◌&&◌, ◌||◌, ℕ, List, Bool, true, false, not, nat_lt, if◌then◌else◌, Option, Some, None, length, get_or, arith, refl, sym, ◌∙◌, ap, subst, inl, inr}
use Rattle.std.specs.List.{between}
use Rattle.std.specs.Str.{bytes_eq}
use Rattle.std.proofs.Math.Nat.{mod-lt}
use Rattle.std.proofs.lemmas.Bool.{and_parts, eq-eqb, eqb-true, false≢true, le-ltb, lt-ltb, ltb-false, ltb-true, or_cases, or_left, or_right}
use Rattle.std.proofs.lemmas.List.Edits.{get_or-between, length-between}
use Rattle.std.proofs.lemmas.Nat.{div-add-mod', div-mul-add, div_below}
use Rattle.std.proofs.lemmas.Option.{none-some, same_Some}
use Rattle.std.proofs.lemmas.Slice.Eq.{bytes_eq-Decides}
use Rattle.std.proofs.lemmas.List.{get_or_read_under}
use Rattle.list_facts.proofs.Bools.{false_from_not}
use Rattle.scrub_disk.specs.declared.buffered_extent.BufferedExtent.{BufferedExtent}
use Rattle.scrub_disk.specs.Buffered.{IsBuffered}
use Rattle.scrub_disk.specs.Image.{Image, image_byte, extent_bytes}
use Rattle.scrub_disk.proofs.HeldBytes.{byte-page, byte-unreadable}
use Rattle.scrub_disk.proofs.PagesRead.{page_fits}
use Rattle.scrub_super.specs.Pages.{IsHeldByte}
use Rattle.scrub_compare.specs.Written.{IsChanged, IsLeastNumber, IsWrittenIn, IsWrittenInRecords, IsZeroNow, MayChangeInRecords, MayChangeInRoom}
use Rattle.scrub_compare.specs.steps.Changes.{IsFirstWithin, IsLeastWithin, byte_at, is_refused, is_refused_at, is_refused_in, is_same_byte, is_zeroed, may_change}
use Rattle.scrub_compare.proofs.Least.{least_of_all, tested}

-- ---- the tests

-- a byte that is the same isn't refused
pub same_passes : (room : Option ℕ) (to p : ℕ) (o : Option ℕ) → is_refused room to p o o ≡ false
same_passes room to p None = refl
same_passes room to p (Some b) =
    ap (λ (t : Bool). not t && not (may_change room to p (Some b) (Some b))) (eq-eqb b b refl)

-- nor any byte of a page that is the same
pub page_passes : (old new : BufferedExtent) (room : Option ℕ) (to page start end : ℕ) →
    ((p : ℕ) → start ≤ p → p < end → byte_at old page p ≡ byte_at new page p) → (p : ℕ) → start ≤ p → p < end →
    is_refused_at old new room to page p ≡ false
page_passes old new room to page start end same p low high =
    ap (λ (o : Option ℕ). is_refused room to p o (byte_at new page p)) (same p low high)
    ∙ same_passes room to p (byte_at new page p)

-- the test whether two bytes are the same decides that
same_if : (o n : Option ℕ) → is_same_byte o n ≡ true → o ≡ n
same_if None None is = refl
same_if None (Some b) is = absurd (false≢true is)
same_if (Some a) None is = absurd (false≢true is)
same_if (Some a) (Some b) is = ap Some (eqb-true a b is)

other_if : (o n : Option ℕ) → is_same_byte o n ≡ false → o ≢ n
other_if o n is e = false≢true (sym is ∙ ap (is_same_byte o) (sym e) ∙ itself o)
  where
    itself : (p : Option ℕ) → is_same_byte p p ≡ true
    itself None = refl
    itself (Some b) = eq-eqb b b refl

zero_if : (o n : Option ℕ) → is_zeroed o n ≡ true → (o ≢ None) × (n ≡ Some 0)
zero_if None n is = absurd (false≢true is)
zero_if (Some a) None is = absurd (false≢true is)
zero_if (Some a) (Some b) is = (λ e. none-some a (sym e), ap Some (eqb-true b 0 is))

zero_then : (o n : Option ℕ) → o ≢ None → n ≡ Some 0 → is_zeroed o n ≡ true
zero_then None n could zero = absurd (could refl)
zero_then (Some a) None could zero = absurd (none-some 0 zero)
zero_then (Some a) (Some b) could zero = eq-eqb b 0 (same_Some b 0 zero)

module _ (before after : Image) (x p : ℕ) where
  zero_now : is_zeroed (image_byte before x p) (image_byte after x p) ≡ true → IsZeroNow before after x p
  zero_now is =
      let z = zero_if (image_byte before x p) (image_byte after x p) is in record { was_readable = z.0; is_zero = z.1 }

  zero_test : IsZeroNow before after x p → is_zeroed (image_byte before x p) (image_byte after x p) ≡ true
  zero_test z = zero_then (image_byte before x p) (image_byte after x p) z.was_readable z.is_zero

  abbrev may : Option ℕ → ℕ → Bool
  may room to = may_change room to p (image_byte before x p) (image_byte after x p)

  -- in an extent with room
  may_if : (room : Option ℕ) (to : ℕ) → may room to ≡ true → MayChangeInRoom before after room to x p
  may_if None to is = absurd (false≢true is)
  may_if (Some place) to is =
      let t = and_parts (not (nat_lt p place)) (nat_lt p to || is_zeroed (image_byte before x p) (image_byte after x p)) is in (
        ltb-false p place (false_from_not (nat_lt p place) t.0),
        by (or_cases (nat_lt p to) (is_zeroed (image_byte before x p) (image_byte after x p)) t.1),
      )
    where
      by : (nat_lt p to ≡ true) ⊎ (is_zeroed (image_byte before x p) (image_byte after x p) ≡ true) → (p < to) ⊎ IsZeroNow before after x p
      by (inl less) = inl (ltb-true p to less)
      by (inr zero) = inr (zero_now zero)

  may_then : (room : Option ℕ) (to : ℕ) → MayChangeInRoom before after room to x p → may room to ≡ true
  may_then None to m = absurd m
  may_then (Some place) to m = both (nat_lt p place) (le-ltb p place m.0) (by m.1)
    where
      both : (t : Bool) → t ≡ false → (nat_lt p to || is_zeroed (image_byte before x p) (image_byte after x p)) ≡ true →
          (not t && (nat_lt p to || is_zeroed (image_byte before x p) (image_byte after x p))) ≡ true
      both true e f = absurd (false≢true (sym e))
      both false e f = f

      by : (p < to) ⊎ IsZeroNow before after x p → (nat_lt p to || is_zeroed (image_byte before x p) (image_byte after x p)) ≡ true
      by (inl less) = or_left (nat_lt p to) (is_zeroed (image_byte before x p) (image_byte after x p)) (lt-ltb p to less)
      by (inr zero) = or_right (nat_lt p to) (is_zeroed (image_byte before x p) (image_byte after x p)) (zero_test zero)

  -- what is refused changed and may not
  refused_parts : (room : Option ℕ) (to : ℕ) → is_refused_in before after room to x p ≡ true →
      IsChanged before after x p × (may room to ≡ false)
  refused_parts room to is =
      let t = and_parts (not (is_same_byte (image_byte before x p) (image_byte after x p))) (not (may room to)) is in (
        other_if (image_byte before x p) (image_byte after x p) (false_from_not (is_same_byte (image_byte before x p) (image_byte after x p)) t.0),
        false_from_not (may room to) t.1,
      )

  -- what isn't did not, or may
  passed_cases : (room : Option ℕ) (to : ℕ) → is_refused_in before after room to x p ≡ false →
      (image_byte before x p ≡ image_byte after x p) ⊎ (may room to ≡ true)
  passed_cases room to = by (is_same_byte (image_byte before x p) (image_byte after x p)) refl (may room to) refl
    where
      by : (s : Bool) → is_same_byte (image_byte before x p) (image_byte after x p) ≡ s → (m : Bool) → may room to ≡ m →
          (not s && not m) ≡ false → (image_byte before x p ≡ image_byte after x p) ⊎ (may room to ≡ true)
      by true same m is f = inl (same_if (image_byte before x p) (image_byte after x p) same)
      by false same true is f = inr is
      by false same false is f = absurd (false≢true (sym f))

  pub written_if : (room : Option ℕ) (to : ℕ) → is_refused_in before after room to x p ≡ true → IsWrittenIn before after room to x p
  written_if room to is =
      let r = refused_parts room to is in (r.0, λ m. false≢true (sym r.1 ∙ may_then room to m))

  pub unwritten_if : (room : Option ℕ) (to : ℕ) → is_refused_in before after room to x p ≡ false → ¬ IsWrittenIn before after room to x p
  unwritten_if room to is w = elim (passed_cases room to is) [
    | inl same ↦ w.0 same
    | inr may ↦ w.1 (may_if room to may)
  ]

-- in extent 0, by how far records reach
module _ (before after : Image) (p reach : ℕ) (held : p < reach → IsHeldByte after p) (below : IsHeldByte after p → p < reach) where
  allowed : MayChangeInRoom before after (Some 0) reach 0 p → MayChangeInRecords before after p
  allowed m = elim m.1 [
    | inl less ↦ inr (held less)
    | inr zero ↦ inl zero
  ]

  allowed_back : MayChangeInRecords before after p → MayChangeInRoom before after (Some 0) reach 0 p
  allowed_back (inl zero) = (omega arith, inr zero)
  allowed_back (inr here) = (omega arith, inl (below here))

  -- A byte of extent 0 that the test refuses changed and may not.
  pub record_written_if : is_refused_in before after (Some 0) reach 0 p ≡ true → IsWrittenInRecords before after p
  record_written_if is = let w = written_if before after 0 p (Some 0) reach is in (w.0, λ m. w.1 (allowed_back m))

  -- A byte of extent 0 that the test passes is what it was, or may change.
  pub record_unwritten_if : is_refused_in before after (Some 0) reach 0 p ≡ false → ¬ IsWrittenInRecords before after p
  record_unwritten_if is w = unwritten_if before after 0 p (Some 0) reach is (w.0, λ m. w.1 (allowed m))

-- ---- past the end

-- an extent has no byte past its end
pub none_past : (image : Image) (x p : ℕ) → extent_bytes image.geometry ≤ p → image_byte image x p ≡ None
none_past image x p past = rw (le-ltb p (extent_bytes image.geometry) past) refl

-- so none changed there
pub same_past : (before after : Image) (x p : ℕ) → after.geometry ≡ before.geometry → extent_bytes before.geometry ≤ p →
    ¬ IsChanged before after x p
same_past before after x p sizes past changed =
    changed (none_past before x p past ∙ sym (none_past after x p (omega (arith, past, ap (λ g. extent_bytes g) sizes))))

-- ---- what was read

-- a place in a page has the number of that page
pub page_of_place : (page size p : ℕ) → page * size ≤ p → p < page * size + size → p / size ≡ page
page_of_place page size p low high =
    ap (λ (n : ℕ). n / size) (let e : p ≡ page * size + (p - page * size) = omega (arith, low) in e)
    ∙ div-mul-add page size (p - page * size) (omega (arith, low, high))

module _ (image : Image) (x : ℕ) (extent : BufferedExtent) (h : IsBuffered image x extent.bytes.items extent.readable.items) where
  -- a byte that was read is that of the image
  pub byte_read : (p : ℕ) → p < extent_bytes image.geometry → byte_at extent (p / image.geometry.page) p ≡ image_byte image x p
  byte_read p here = by (get_or extent.readable.items q false) refl
    where
      size : ℕ
      size = image.geometry.page

      positive : 0 < size
      positive = omega (arith, image.geometry.page_least)

      q : ℕ
      q = p / size

      k : ℕ
      k = p % size

      below : q < image.geometry.pages
      below = div_below p size image.geometry.pages positive (omega (arith, here))

      within : k < size
      within = mod-lt p positive

      fits : q * size + size ≤ length extent.bytes.items
      fits =
          omega (
            arith,
            page_fits size q image.geometry.pages (extent_bytes image.geometry) below refl,
            h.size,
          )

      length_page : length (between (q * size) (q * size + size) extent.bytes.items) ≡ size
      length_page =
          let l : length (between (q * size) (q * size + size) extent.bytes.items) ≡ q * size + size - q * size =
          length-between extent.bytes.items (q * size) (q * size + size) fits in
          omega (arith, l)

      by : (b : Bool) → get_or extent.readable.items q false ≡ b → byte_at extent q p ≡ image_byte image x p
      by true marked =
          ap (λ (t : Bool). if t then Some (get_or extent.bytes.items p 0) else None) marked
          ∙ sym
          (rw (get_or-between extent.bytes.items (q * size) (q * size + size) k 0 (omega (arith, within)), div-add-mod' p size) at
          (byte-page image x q k (between (q * size) (q * size + size) extent.bytes.items) (rw marked at (h.pages q below)) length_page below within))
      by false marked =
          ap (λ (t : Bool). if t then Some (get_or extent.bytes.items p 0) else None) marked
          ∙ sym (byte-unreadable image x p (rw marked at (h.pages q below)))

module _ (before after : Image) (sizes : after.geometry ≡ before.geometry) (x : ℕ) (old new : BufferedExtent)
    (was : IsBuffered before x old.bytes.items old.readable.items) (is : IsBuffered after x new.bytes.items new.readable.items)
    (room : Option ℕ) (to : ℕ) where
  -- so it is refused if the byte of the images is
  pub refused_read : (p : ℕ) → p < extent_bytes before.geometry →
      is_refused_at old new room to (p / before.geometry.page) p ≡ is_refused_in before after room to x p
  refused_read p here =
      ap (λ (o : Option ℕ). is_refused room to p o (byte_at new (p / before.geometry.page) p)) (byte_read before x old was p here)
      ∙ ap (λ (size : ℕ). is_refused room to p (image_byte before x p) (byte_at new (p / size) p)) (ap (λ g. g.page) (sym sizes))
      ∙ ap (λ (o : Option ℕ). is_refused room to p (image_byte before x p) o) (byte_read after x new is p (omega (arith, here, ap (λ g. extent_bytes g) sizes)))

-- ---- page by page

-- the first byte of a page that is refused, by the number of the page of each place
pub page_least : (old new : BufferedExtent) (room : Option ℕ) (to page size per : ℕ) (r : Option ℕ) → size ≡ per →
    IsFirstWithin (page * size) (page * size + size) (is_refused_at old new room to page) r →
    IsLeastWithin (page * per) (page * per + per) (λ p. is_refused_at old new room to (p / per) p ≡ true) r
page_least old new room to page size per r same first =
    tested (page * per) (page * per + per) (is_refused_at old new room to page) (λ p. is_refused_at old new room to (p / per) p ≡ true) r
    (λ p low high is. number p low high ∙ is) (λ p low high is t. false≢true (sym is ∙ sym (number p low high) ∙ t))
    (subst (λ (n : ℕ). IsFirstWithin (page * n) (page * n + n) (is_refused_at old new room to page) r) same first)
  where
    number : (p : ℕ) → page * per ≤ p → p < page * per + per → is_refused_at old new room to (p / per) p ≡ is_refused_at old new room to page p
    number p low high = ap (λ (q : ℕ). is_refused_at old new room to q p) (page_of_place page per p low high)

-- a byte of the images is refused where one that was read is
pub images_least : (before after : Image) (sizes : after.geometry ≡ before.geometry) (x : ℕ) (old new : BufferedExtent) →
    IsBuffered before x old.bytes.items old.readable.items → IsBuffered after x new.bytes.items new.readable.items →
    (room : Option ℕ) (to : ℕ) (r : Option ℕ) →
    IsLeastWithin 0 (extent_bytes before.geometry) (λ p. is_refused_at old new room to (p / before.geometry.page) p ≡ true) r →
    IsLeastWithin 0 (extent_bytes before.geometry) (λ p. is_refused_in before after room to x p ≡ true) r
images_least before after sizes x old new was is room to None least =
    λ p low high t. least p low high (refused_read before after sizes x old new was is room to p high ∙ t)
images_least before after sizes x old new was is room to (Some q) (from, below, held, earlier) = (
  from,
  below,
  sym (refused_read before after sizes x old new was is room to q below) ∙ held,
  λ p low less t. earlier p low less (refused_read before after sizes x old new was is room to p (omega (arith, less, below)) ∙ t),
)

-- the first byte of an extent that changed and may not
pub written_least : (before after : Image) (sizes : after.geometry ≡ before.geometry) (x : ℕ) (room : Option ℕ) (to : ℕ) (r : Option ℕ) →
    IsLeastWithin 0 (extent_bytes before.geometry) (λ p. is_refused_in before after room to x p ≡ true) r →
    IsLeastNumber (IsWrittenIn before after room to x) r
written_least before after sizes x room to r least =
    least_of_all (IsWrittenIn before after room to x) (extent_bytes before.geometry) r
    (λ p past w. same_past before after x p sizes past w.0) (by r least)
  where
    refused : (p : ℕ) → IsWrittenIn before after room to x p → is_refused_in before after room to x p ≡ true
    refused p w = true_from (is_refused_in before after room to x p) (λ none. unwritten_if before after x p room to none w)
      where
        true_from : (b : Bool) → (b ≡ false → ⊥) → b ≡ true
        true_from true h = refl
        true_from false h = absurd (h refl)

    by : (o : Option ℕ) → IsLeastWithin 0 (extent_bytes before.geometry) (λ p. is_refused_in before after room to x p ≡ true) o →
        IsLeastWithin 0 (extent_bytes before.geometry) (IsWrittenIn before after room to x) o
    by None none = λ p low high w. none p low high (refused p w)
    by (Some q) (from, below, is, earlier) = (
      from,
      below,
      written_if before after x q room to is,
      λ p low less w. earlier p low less (refused p w),
    )

-- two bytes are the same or aren't
pub same_or_other : (o n : Option ℕ) → (o ≡ n) ⊎ (o ≢ n)
same_or_other o n = by (is_same_byte o n) refl
  where
    by : (b : Bool) → is_same_byte o n ≡ b → (o ≡ n) ⊎ (o ≢ n)
    by true is = inl (same_if o n is)
    by false is = inr (other_if o n is)

-- parts of two extents that are the same have the same bytes
pub same_part : (old new : BufferedExtent) (page start end : ℕ) →
    get_or old.readable.items page false ≡ get_or new.readable.items page false →
    bytes_eq (between start end old.bytes.items) (between start end new.bytes.items) ≡ true → (p : ℕ) → start ≤ p → p < end →
    byte_at old page p ≡ byte_at new page p
same_part old new page start end marks same p low high = λ i. if marks i then Some (there i) else None
  where
    parts_same : between start end old.bytes.items ≡ between start end new.bytes.items
    parts_same = (bytes_eq-Decides (between start end old.bytes.items) (between start end new.bytes.items)).0 same

    at : (xs : List ℕ) → get_or (between start end xs) (p - start) 0 ≡ get_or xs p 0
    at xs =
        get_or-between xs start end (p - start) 0 (omega (arith, low, high))
        ∙ ap (λ (n : ℕ). get_or xs n 0) (let e : start + (p - start) ≡ p = omega (arith, low) in e)

    there : get_or old.bytes.items p 0 ≡ get_or new.bytes.items p 0
    there = sym (at old.bytes.items) ∙ ap (λ (xs : List ℕ). get_or xs (p - start) 0) parts_same ∙ at new.bytes.items

-- two marks that are the same, as the code reads them
pub same_marks : (xs ys : List Bool) (k : ℕ) (a b : Bool) → a ≡ get_or xs k a → b ≡ get_or ys k b → k < length xs → k < length ys →
    (same : a ≡ b) → get_or xs k false ≡ get_or ys k false
same_marks xs ys k a b one other inside too same =
    sym (get_or_read_under xs k (length xs) a false one inside refl) ∙ same ∙ get_or_read_under ys k (length ys) b false other too refl
