-- Which pages of a loaded image are unreadable.
use Rattle.std.proofs.Common.{◌≡◌, ◌<◌, ◌≤◌, ◌+◌, ◌-◌, ◌*◌, ℕ, Bool, IsTrue, true, false, cond, List, [], length, get_or, arith, refl, sym, ◌∙◌, inl, inr, ◌⊎◌, Option, Some, None, IfSome}
use Rattle.std.specs.List.{between, Contains}
use Rattle.std.proofs.lemmas.Nat.{row_fits}
use Rattle.std.proofs.lemmas.Option.{slice_get_within, none-some}
use Rattle.scrub_disk.specs.declared.geometry.Geometry.{Geometry}
use Rattle.std.specs.Bool.{OnFalse, OnTrue}
use Rattle.std.proofs.lemmas.Bool.{false≢true}
use Rattle.scrub_disk.specs.Image.{Image, HasWholePages, disk_bytes}
use Rattle.scrub_disk.specs.BytesAndMarks.{held}
use Rattle.scrub_disk.specs.Raw.{IsPageAt, HoldsRaw, LosesOnly, HoldsKnown, IsLoadedIn, every_extent}
use Rattle.scrub_disk.specs.steps.Marked.{MarksAll}
use Rattle.scrub_disk.specs.steps.Ahead.{IsReadFrom, IsReadPart}
use Rattle.scrub_disk.proofs.RawImages.{holds_raw}

-- a page that is whole at its place isn't cut
pub uncut : (known : List ℕ) (place size : ℕ) (page : Option (List ℕ)) → 0 < size → length known < place + size →
    IfSome page (IsPageAt known place size) → page ≡ None
uncut known place size None some cut at = refl
uncut known place size (Some bytes) some cut at =
    let last : size - 1 < length bytes = omega (arith, at.whole, some) in
    let within : place + (size - 1) < length known =
    slice_get_within known (place + (size - 1)) (get_or bytes (size - 1) 0) (at.stands (size - 1) last) in
    absurd (omega (arith, within, cut, some))

-- a page is unreadable only if its number is marked
pub marked_at : (b : Bool) (page : List ℕ) → cond b None (Some page) ≡ None → b ≡ true
marked_at true page e = refl
marked_at false page e = absurd (none-some page (sym e))

-- pages that are named are lost too, and no more
loses_marked : (wanted : ℕ → Type 0) (known : List ℕ) (fails : ℕ → ℕ → Bool) (g : Geometry) (named : List (ℕ × ℕ)) (before after : ℕ) (old new : Image) →
    old.geometry ≡ g → before ≤ after →
    LosesOnly wanted known fails g [] before old → MarksAll old new named → LosesOnly wanted known fails g named after new
loses_marked wanted known fails g named before after old new is le l m = record {
  cut = λ e p w he hp cut. elim (changed e p he hp) [ inl same ↦ same ∙ l.cut e p w he hp cut | inr gone ↦ gone.0 ];
  failed = l.failed;
  few = omega (arith, l.few, le);
  each = l.each;
  only = λ e p w he hp none. elim (changed e p he hp) [
    | inr gone ↦ inl gone.1
    | inl same ↦ elim (l.only e p w he hp (sym same ∙ none)) [
      | inl unnamed ↦ absurd (omega (arith, unnamed.1))
      | inr lost ↦ inr lost
    ]
  ];
}
  where
    changed : (e p : ℕ) → e < g.extents → p < g.pages →
        (new.page e p ≡ old.page e p) ⊎ ((new.page e p ≡ None) × Contains named (e, p))
    changed e p he hp = m.others e p (rw is he) (rw is hp)

-- marks take no bytes away from pages that stay readable
holds_marked : (wanted : ℕ → Type 0) (known : List ℕ) (named : List (ℕ × ℕ)) (old new : Image) → HoldsRaw wanted known old → MarksAll old new named →
    HoldsRaw wanted known new
holds_marked wanted known named old new h m e q w he hq =
    let he' : e < old.geometry.extents = rw m.geometry at he in
    let hq' : q < old.geometry.pages = rw m.geometry at hq in
    elim (m.others e q he' hq') [
      | inl same ↦
          rw m.geometry
          (rw same (h e q w he' hq'))
      | inr gone ↦ rw gone.0 tt
    ]

-- a disk whose wanted extents were read from raw bytes, with at most `failures` failed reads and no byte found after its last
-- page, is loaded once its named pages are marked; the failures of the last reader are counted before and after the last read
pub loaded_with : (wanted : ℕ → Type 0) (raw was : Option (List ℕ)) (fails : ℕ → ℕ → Bool) (g : Geometry) (named : List (ℕ × ℕ)) (few failures before after end : ℕ) (there : Bool) (old new : Image) →
    was ≡ raw → end ≡ disk_bytes g → there ≡ false → old.geometry ≡ g → few ≤ failures → (before < after → 0 < failures) →
    HasWholePages new →
    IfSome raw (λ known. HoldsRaw wanted known old) → IfSome raw (λ known. LosesOnly wanted known fails g [] few old) →
    IfSome was (λ known. OnFalse there ((length known ≤ end) ⊎ ((before < after) × IsTrue (fails end 1)))) → MarksAll old new named →
    IsLoadedIn wanted raw fails failures g named new
loaded_with wanted raw was fails g named few failures before after end there old new same at absent is le counted whole holds lost short m = record {
  geometry = m.geometry ∙ is;
  whole = whole;
  unreadable = λ k d hk _. m.marked k d hk;
  known = of_known raw holds lost (rw same at short);
}
  where
    not_found : (b : Bool) {P : Type 0} → b ≡ false → OnFalse b P → P
    not_found false e p = p
    not_found true e p = absurd (false≢true (sym e))

    of_known : (r : Option (List ℕ)) → IfSome r (λ known. HoldsRaw wanted known old) →
        IfSome r (λ known. LosesOnly wanted known fails g [] few old) →
        IfSome r (λ known. OnFalse there ((length known ≤ end) ⊎ ((before < after) × IsTrue (fails end 1)))) →
        IfSome r (λ known. HoldsKnown wanted known fails failures g named new)
    of_known None holds lost short = tt
    of_known (Some known) holds lost short = record {
      pages = holds_marked wanted known named old new holds m;
      lost = loses_marked wanted known fails g named few failures old new is le lost m;
      not_too_long = elim (not_found there absent short) [
        | inl fits ↦ inl (omega (arith, fits, at))
        | inr more ↦ inr (counted more.0, rw at at more.1)
      ];
    }

-- what was loaded while few reads failed was loaded while at most many did: for a caller that knows only a bound
pub loaded_with_more : (wanted : ℕ → Type 0) (raw : Option (List ℕ)) (fails : ℕ → ℕ → Bool) (few many : ℕ) (g : Geometry) (named : List (ℕ × ℕ)) (image : Image) →
    few ≤ many →
    IsLoadedIn wanted raw fails few g named image → IsLoadedIn wanted raw fails many g named image
loaded_with_more wanted raw fails few many g named image le l = record {
  geometry = l.geometry;
  whole = l.whole;
  unreadable = l.unreadable;
  known = of_known raw l.known;
}
  where
    of_known : (r : Option (List ℕ)) → IfSome r (λ known. HoldsKnown wanted known fails few g named image) →
        IfSome r (λ known. HoldsKnown wanted known fails many g named image)
    of_known None t = tt
    of_known (Some known) t = record {
      pages = t.pages;
      lost = record {
        cut = t.lost.cut;
        failed = t.lost.failed;
        few = omega (arith, t.lost.few, le);
        each = t.lost.each;
        only = t.lost.only;
      };
      not_too_long = elim t.not_too_long [
        | inl fits ↦ inl fits
        | inr failed ↦ inr (omega (arith, failed.0, le), failed.1)
      ];
    }

-- a disk whose bytes and marks were read from its first page on has the raw pages
pub holds_read : (g : Geometry) (raw : Option (List ℕ)) (fails : ℕ → ℕ → Bool) (failures : ℕ) (bytes : List ℕ) (marks : List Bool) (image : Image) →
    image ≡ held g bytes marks → length bytes ≡ g.page * g.pages * g.extents → length marks ≡ g.pages * g.extents →
    IsReadFrom raw fails 0 g.page failures bytes marks → IfSome raw (λ known. HoldsRaw every_extent known image)
holds_read g None fails failures bytes marks image is lb lm r = tt
holds_read g (Some known) fails failures bytes marks image is lb lm r = rw is (holds_raw g known bytes marks lb lm r.held)

-- and has lost only pages that are cut or that failures cost
loses_only : (g : Geometry) (known : List ℕ) (fails : ℕ → ℕ → Bool) (bytes : List ℕ) (marks : List Bool) (failures : ℕ) →
    length marks ≡ g.pages * g.extents → IsReadPart known fails 0 g.page failures bytes marks →
    HoldsRaw every_extent known (held g bytes marks) → LosesOnly every_extent known fails g [] failures (held g bytes marks)
loses_only g known fails bytes marks failures lm r holds = record {
  cut = λ e p w he hp cut.
      uncut known ((e * g.pages + p) * g.page) g.page ((held g bytes marks).page e p) (omega (arith, g.page_least))
      cut (holds e p w he hp);
  failed = r.lost.failed;
  few = r.lost.few;
  each = r.lost.each;
  only = λ e p w he hp none.
      let row : e * g.pages + g.pages ≤ g.extents * g.pages = row_fits e g.pages g.extents g.pages he (omega arith) in
      let number : 0 + (e * g.pages + p) ≡ e * g.pages + p = omega arith in
      elim
      (rw number at (r.lost.only (e * g.pages + p) (omega (arith, row, hp, lm)) (marked_at (get_or marks (e * g.pages + p) false) (between ((e * g.pages + p) * g.page) ((e * g.pages + p) * g.page + g.page) bytes) none))) [
        | inl cut ↦ inr (inl cut)
        | inr failed ↦ inr (inr failed)
      ];
}

pub loses_read : (g : Geometry) (raw : Option (List ℕ)) (fails : ℕ → ℕ → Bool) (failures : ℕ) (bytes : List ℕ) (marks : List Bool) (image : Image) →
    image ≡ held g bytes marks → length marks ≡ g.pages * g.extents → IfSome raw (λ known. HoldsRaw every_extent known image) →
    IsReadFrom raw fails 0 g.page failures bytes marks → IfSome raw (λ known. LosesOnly every_extent known fails g [] failures image)
loses_read g None fails failures bytes marks image is lm holds r = tt
loses_read g (Some known) fails failures bytes marks image is lm holds r =
    rw is (loses_only g known fails bytes marks failures lm r (rw is at holds))

-- a byte that was found after the last page
pub byte_at_end_is_too_long : (raw was : Option (List ℕ)) (end size : ℕ) (there : Bool) → was ≡ raw → end ≡ size → there ≡ true →
    IfSome was (λ known. OnTrue there (end < length known)) → IfSome raw (λ known. size < length known)
byte_at_end_is_too_long None was end size there same at found short = tt
byte_at_end_is_too_long (Some known) was end size there same at found short = rw (at, found) at (rw same at short)
