-- Unreadable pages, and the bytes on them.
use Rattle.std.proofs.Common.{◌≡◌, ◌<◌, ◌≤◌, ◌+◌, ◌-◌, ◌/◌, ℕ, true, arith, refl, sym, ◌∙◌, ap, is_none}
use Rattle.std.proofs.lemmas.Nat.{div_below}
use Rattle.list_facts.proofs.Arithmetic.{div_rises, place_in_row}
use Rattle.list_facts.proofs.Filters.{Contains-filter_range, filter_range-passes}
use Rattle.list_facts.proofs.Options.{None_from_is_none}
use Rattle.scrub_disk.specs.Image.{Image, image_byte, extent_bytes, unreadable_pages, HasWholePages}
use Rattle.scrub_disk.proofs.HeldBytes.{byte-unreadable}
use Rattle.scrub_scan.specs.Extent.{HasGap}
use Rattle.scrub_scan.proofs.BytesAt.{page_byte}
use Rattle.scrub_check.proofs.Searches.{LiesBetween}

-- If one of the pages of the `size` bytes from `start` on can't be read, one of these bytes can't.
pub gap_pages : (image : Image) (e start size page first last : ℕ) → HasWholePages image → e < image.geometry.extents →
    start + size ≤ extent_bytes image.geometry → 0 < size →
    page ≡ image.geometry.page → first ≡ start / page → last ≡ (start + size - 1) / page →
    LiesBetween (unreadable_pages image e) first last → HasGap (image_byte image e) start size
gap_pages image e start size page first last whole he fits some hp hf hl (q, there, low, high) =
    let pos : 0 < page = omega (arith, hp, image.geometry.page_least) in
    let is = filter_range-passes (λ p. is_none (image.page e p)) 0 image.geometry.pages q there in
    let place =
    place_in_row q start (start + size) page pos (omega (arith, some)) (omega (arith, low, hf)) (omega (arith, high, hl)) in
    record {
      place = place.0;
      low = place.1;
      high = place.2;
      unreadable =
          byte-unreadable image e place.0
          (ap (image.page e) (ap (λ p. place.0 / p) (sym hp) ∙ place.3) ∙ None_from_is_none (image.page e q) is.2);
    }

-- If one of the `size` bytes from `start` on can't be read, one of their pages can't.
pub pages_gap : (image : Image) (e start size page first last : ℕ) → HasWholePages image → e < image.geometry.extents →
    start + size ≤ extent_bytes image.geometry → 0 < size →
    page ≡ image.geometry.page → first ≡ start / page → last ≡ (start + size - 1) / page →
    HasGap (image_byte image e) start size → LiesBetween (unreadable_pages image e) first last
pages_gap image e start size page first last whole he fits some hp hf hl gap =
    let pos : 0 < page = omega (arith, hp, image.geometry.page_least) in
    let inside : gap.place < extent_bytes image.geometry = omega (arith, gap.high, fits) in
    let none : is_none (image.page e (gap.place / image.geometry.page)) ≡ true =
    page_byte image e gap.place (image.page e (gap.place / image.geometry.page)) whole he inside refl gap.unreadable in
    let q : gap.place / image.geometry.page < image.geometry.pages =
    div_below gap.place image.geometry.page image.geometry.pages (omega (arith, pos, hp)) (omega (arith, inside)) in
    let same : gap.place / image.geometry.page ≡ gap.place / page = ap (λ p. gap.place / p) (sym hp) in (
      gap.place / image.geometry.page,
      Contains-filter_range (λ p. is_none (image.page e p)) 0 image.geometry.pages (gap.place / image.geometry.page) (omega arith)
          (omega (arith, q)) none,
      omega (arith, div_rises start gap.place page pos gap.low, same, hf),
      omega (arith, div_rises gap.place (start + size - 1) page pos (omega (arith, gap.high)), same, hl),
    )
