-- Whether each page of an extent, and of a disk, can be read.
use Rattle.std.proofs.Common.{◌≡◌, ◌<◌, ◌+◌, ◌-◌, ◌&&◌, ℕ, Bool, true, false, cond, List, [], Option, Some, None, length, get_or, arith, refl, sym, ◌∙◌, subst, inl, inr}
use Rattle.std.specs.Prelude.{IsTrue, ◌↔◌}
use Rattle.std.specs.List.{list_all}
use Rattle.std.proofs.lemmas.Bool.{and_parts, cases_lt, false≢true}
use Rattle.std.proofs.lemmas.List.{get_or_default}
use Rattle.std.proofs.lemmas.List.Sums.{AllPass-from_list_all, list_all-from_AllPass}
use Rattle.std.proofs.lemmas.Option.{none-some}
use Rattle.std.proofs.lemmas.Slice.Zip.{AllZip-long}
use Rattle.list_facts.proofs.Decisions.{Decided, decided_below}
use Rattle.list_facts.proofs.Zips.{AllZip-at}
use Rattle.scrub_disk.specs.Buffered.{IsBuffered}
use Rattle.scrub_disk.specs.Image.{Image}
use Rattle.scrub_loose.specs.Outer.{IsReadableDisk, IsReadableExtent}
use Rattle.scrub_loose.specs.steps.Held.{AreMarks}
use Rattle.scrub_loose.specs.steps.Walk.{AreExtentsBut, AreWalked, IsWalked, WalkedValue}

-- the marks of an extent in memory say which of its pages can be read
pub marks_read : (image : Image) (e : ℕ) (bytes : List ℕ) (readable : List Bool) → IsBuffered image e bytes readable → AreMarks image e readable
marks_read image e bytes readable h = record { count = h.count; each = λ q low. by q _ (get_or readable q false) (h.pages q low) }
  where
    by : (q : ℕ) (ys : List ℕ) (b : Bool) → image.page e q ≡ cond b (Some ys) None → IsTrue b ↔ (¬ (image.page e q ≡ None))
    by q ys true is = (λ yes none. none-some ys (sym none ∙ is), λ some. refl)
    by q ys false is = (λ yes. absurd (false≢true yes), λ some. absurd (some is))

-- they are all set if each page can be read
pub whole_marks : (image : Image) (e : ℕ) (readable : List Bool) → AreMarks image e readable →
    IsTrue (list_all (λ mark. mark) readable) ↔ IsReadableExtent image e
whole_marks image e readable are = (
  λ all q low. (are.each q low).0 (AllPass-from_list_all (λ mark. mark) readable all q false (omega (arith, low, are.count))),
  λ is.
      list_all-from_AllPass (λ mark. mark) readable
      (λ k d low.
      get_or_default readable k d false low
      ∙ (are.each k (omega (arith, low, are.count))).1 (is k (omega (arith, low, are.count)))),
)

both : (a b : Bool) → a ≡ true → b ≡ true → (a && b) ≡ true
both true b is also = also
both false b is also = absurd (false≢true is)

-- so each page of a disk can be read if each of those in extent 0 and in the others can
pub readable_disk : (image : Image) (es : List ℕ) (each : List WalkedValue) (first : Bool) → AreExtentsBut image.geometry.extents es →
    AreWalked image es each → IsTrue first ↔ IsReadableExtent image 0 →
    IsTrue (first && list_all (λ w. w.is_readable) each) ↔ IsReadableDisk image
readable_disk image es each first are walked first_is = (
  λ all e in_disk.
      let parts = and_parts first (list_all (λ w. w.is_readable) each) all in
      elim (cases_lt 0 e) [
        | inl later ↦
            let low : e - 1 < length es = omega (arith, are.count, later, in_disk) in
            let within : e - 1 < length each = omega (arith, low, long) in
            let at : get_or es (e - 1) 0 ≡ e = are.each (e - 1) low ∙ (let back : e - 1 + 1 ≡ e = omega (arith, later) in back) in
            let one = AllZip-at (IsWalked image) es each (e - 1) 0 none low walked in
            subst (IsReadableExtent image) at
            (one.readable.0 (AllPass-from_list_all (λ w. w.is_readable) each parts.1 (e - 1) none within))
        | inr least ↦ subst (IsReadableExtent image) (let same : 0 ≡ e = omega (arith, least) in same) (first_is.0 parts.0)
      ],
  λ is.
      both first (list_all (λ w. w.is_readable) each) (first_is.1 (is 0 (omega (arith, image.geometry.extents_least))))
      (list_all-from_AllPass (λ w. w.is_readable) each
      (λ k d low.
      let within : k < length es = omega (arith, low, long) in
      (AllZip-at (IsWalked image) es each k 0 d within walked).readable.1
      (is (get_or es k 0) (omega (arith, are.each k within, are.count, within))))),
)
  where
    long : length es ≡ length each
    long = sym (AllZip-long (IsWalked image) es each walked)

    none : WalkedValue
    none = record { runs = []; is_readable = false }

-- It is decided whether each can.
pub decided_readable : (image : Image) → Decided (IsReadableDisk image)
decided_readable image =
    decided_below (λ e. IsReadableExtent image e)
    (λ e. decided_below (λ q. ¬ (image.page e q ≡ None)) (λ q. page (image.page e q)) image.geometry.pages) image.geometry.extents
  where
    page : (o : Option (List ℕ)) → Decided (¬ (o ≡ None))
    page None = inr (λ some. some refl)
    page (Some ys) = inl (λ none. none-some ys (sym none))
