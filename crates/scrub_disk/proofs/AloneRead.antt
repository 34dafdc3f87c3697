-- The image of one extent that was read alone: each of its pages is unreadable, or has the raw bytes of its place.
use Rattle.std.proofs.Common.{◌≡◌, ◌<◌, ◌≤◌, ◌+◌, ◌-◌, ◌*◌, ◌/◌, ℕ, Bool, true, false, cond, List, [], length, get_or, arith, refl, sym, ◌∙◌, ap, inl, inr, Option, Some, None, IfSome, slice_get}
use Rattle.std.specs.List.{between}
use Rattle.std.proofs.Math.Path.{ap₂}
use Rattle.std.proofs.lemmas.Bool.{eq-eqb}
use Rattle.std.proofs.lemmas.Nat.{div-mul-add}
use Rattle.std.proofs.lemmas.List.{get_or_default}
use Rattle.std.proofs.lemmas.List.Edits.{length-between, get_or-between}
use Rattle.scrub_disk.specs.declared.geometry.Geometry.{Geometry}
use Rattle.scrub_disk.specs.declared.one_extent.OneExtent.{OneExtent}
use Rattle.scrub_disk.specs.Image.{Image}
use Rattle.scrub_disk.specs.OneExtent.{alone, image_of, page_of_extent}
use Rattle.scrub_disk.specs.Raw.{IsPageAt, HoldsRaw, LosesOnly, raw_place}
use Rattle.scrub_disk.specs.steps.Ahead.{IsReadFrom, IsReadPart}
use Rattle.scrub_disk.specs.steps.WholePages.{extent_room}
use Rattle.scrub_disk.proofs.LostPages.{marked_at, uncut}

-- page q of the extent has its bytes, if it isn't marked
own_page_at : (g : Geometry) (x : ℕ) (text bytes : List ℕ) (marks : List Bool) (fails : ℕ → ℕ → Bool) (failures q : ℕ) →
    length bytes ≡ g.page * g.pages →
    length marks ≡ g.pages → IsReadPart text fails (x * g.pages) g.page failures bytes marks → q < g.pages →
    IfSome (page_of_extent g bytes marks q) (IsPageAt text (raw_place g x q) g.page)
own_page_at g x text bytes marks fails failures q lb lm read hq = by_mark (get_or marks q false) refl
  where
    by_mark : (b : Bool) → get_or marks q false ≡ b →
        IfSome (cond b None (Some (between (q * g.page) (q * g.page + g.page) bytes))) (IsPageAt text (raw_place g x q) g.page)
    by_mark true is = tt
    by_mark false is =
        let room : q * g.page + g.page ≤ g.page * g.pages = extent_room g.page g.pages q hq in
        let l : length (between (q * g.page) (q * g.page + g.page) bytes) ≡ g.page =
        length-between bytes (q * g.page) (q * g.page + g.page) (omega (arith, room, lb))
        ∙ (let z : q * g.page + g.page - q * g.page ≡ g.page = omega arith in z) in
        record {
          whole = l;
          stands = λ k hk.
              let small : k < g.page = omega (arith, hk, l) in
              let own : (q * g.page + k) / g.page ≡ q = div-mul-add q g.page k small in
              let place : raw_place g x q + k ≡ x * g.pages * g.page + (q * g.page + k) = omega arith in
              ap (slice_get text) place
              ∙ read.held (q * g.page + k) (omega (arith, room, lb, small))
              (ap (λ m. get_or marks m true) own ∙ get_or_default marks q true false (omega (arith, hq, lm)) ∙ is)
              ∙ ap Some (sym (get_or-between bytes (q * g.page) (q * g.page + g.page) k 0 (omega (arith, small))));
        }

-- an image of one extent with these bytes and marks, as many as its pages have
pub record IsAloneRead (g : Geometry) (x : ℕ) (text : List ℕ) (unreadable : List Bool) (image : Image) : Type 0 where
  pub bytes : length text ≡ g.page * g.pages
  pub marks : length unreadable ≡ g.pages
  pub same : image ≡ alone g x text unreadable

-- what was read of one extent, as its image has it
pub read_alone : (disk : OneExtent) (g : Geometry) (x : ℕ) → disk.geometry ≡ g → disk.extent ≡ x →
    IsAloneRead g x disk.bytes.items disk.unreadable.items (image_of disk)
read_alone disk g x sizes own = record {
  bytes = rw sizes at disk.whole;
  marks = rw sizes at disk.each_page;
  same = ap₂ (λ (h : Geometry) (y : ℕ). alone h y disk.bytes.items disk.unreadable.items) sizes own;
}

module _ {g : Geometry} {x : ℕ} {bytes : List ℕ} {marks : List Bool} {image : Image} (is : IsAloneRead g x bytes marks image) where
  -- the extent has the raw pages
  holds_text : (text : List ℕ) (fails : ℕ → ℕ → Bool) (failures : ℕ) → IsReadPart text fails (x * g.pages) g.page failures bytes marks →
      HoldsRaw (λ e. e ≡ x) text (alone g x bytes marks)
  holds_text text fails failures read e q here he hq =
      rw (eq-eqb e x here)
      (rw here (own_page_at g x text bytes marks fails failures q is.bytes is.marks read hq))

  pub holds_alone : (raw : Option (List ℕ)) (fails : ℕ → ℕ → Bool) (failures : ℕ) →
      IsReadFrom raw fails (x * g.pages) g.page failures bytes marks → IfSome raw (λ known. HoldsRaw (λ e. e ≡ x) known image)
  holds_alone None fails failures read = tt
  holds_alone (Some text) fails failures read = rw is.same (holds_text text fails failures read)

  -- and has lost only pages that are cut or that failures cost
  loses_text : (text : List ℕ) (fails : ℕ → ℕ → Bool) (failures : ℕ) → IsReadPart text fails (x * g.pages) g.page failures bytes marks →
      LosesOnly (λ e. e ≡ x) text fails g [] failures (alone g x bytes marks)
  loses_text text fails failures read = record {
    cut = λ e q here he hq cut.
        uncut text (raw_place g e q) g.page ((alone g x bytes marks).page e q)
        (omega (arith, g.page_least)) cut (holds_text text fails failures read e q here he hq);
    failed = read.lost.failed;
    few = read.lost.few;
    each = read.lost.each;
    only = λ e q here he hq none.
        elim (read.lost.only q (omega (arith, hq, is.marks)) (marked_at (get_or marks q false) (between (q * g.page) (q * g.page + g.page) bytes) (rw (eq-eqb e x here) at none))) [
          | inl cut ↦ inr (inl (rw here cut))
          | inr failed ↦ inr (inr (rw here failed))
        ];
  }

  pub loses_alone : (raw : Option (List ℕ)) (fails : ℕ → ℕ → Bool) (failures : ℕ) →
      IsReadFrom raw fails (x * g.pages) g.page failures bytes marks →
      IfSome raw (λ known. LosesOnly (λ e. e ≡ x) known fails g [] failures image)
  loses_alone None fails failures read = tt
  loses_alone (Some text) fails failures read = rw is.same (loses_text text fails failures read)
