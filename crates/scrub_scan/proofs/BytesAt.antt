-- The bytes of a page, and the part of it from a place on.
use Rattle.std.proofs.Common.{◌≡◌, ◌<◌, ◌≤◌, ◌+◌, ◌-◌, ◌*◌, ◌/◌, ◌%◌, ℕ, List, length, get_or, arith, refl, sym, ◌∙◌, ap, Option, Some, None, true, is_none}
use Rattle.std.specs.List.{between}
use Rattle.std.proofs.Math.Nat.{mod-lt}
use Rattle.std.proofs.lemmas.Nat.{div-add-mod', div_below}
use Rattle.std.proofs.lemmas.List.Edits.{length-between, get_or-between}
use Rattle.scrub_disk.specs.Image.{Image, image_byte, extent_bytes, AreBytesAt, HasWholePages}
use Rattle.scrub_disk.proofs.HeldBytes.{byte-page}

-- a byte of a whole page can be read
pub page_byte : (image : Image) (e i : ℕ) (o : Option (List ℕ)) → HasWholePages image → e < image.geometry.extents →
    i < extent_bytes image.geometry → image.page e (i / image.geometry.page) ≡ o → image_byte image e i ≡ None →
    is_none o ≡ true
page_byte image e i None whole he hi is gap = refl
page_byte image e i (Some bytes) whole he hi is gap =
    let pos : 0 < image.geometry.page = omega (arith, image.geometry.page_least) in
    let q : i / image.geometry.page < image.geometry.pages =
    div_below i image.geometry.page image.geometry.pages pos (omega (arith, hi)) in
    let l : length bytes ≡ image.geometry.page = whole e (i / image.geometry.page) bytes he q is in
    let there : image_byte image e i ≡ Some (get_or bytes (i % image.geometry.page) 0) =
    ap (image_byte image e) (sym (div-add-mod' i image.geometry.page))
    ∙ byte-page image e (i / image.geometry.page) (i % image.geometry.page) bytes is l q (mod-lt i pos) in
    let no_such : Some (get_or bytes (i % image.geometry.page) 0) ≡ None = sym there ∙ gap in absurd (cc)

-- the part is at the place
pub part_stands : (image : Image) (e place last page : ℕ) (bytes : List ℕ) → page ≡ image.geometry.page →
    place < extent_bytes image.geometry → image.page e (place / page) ≡ Some bytes → length bytes ≡ page →
    last ≤ page → AreBytesAt (image_byte image e) place (between (place % page) last bytes)
part_stands image e place last page bytes same within read l most k hk =
    let pos : 0 < page = omega (arith, same, image.geometry.page_least) in
    let lp : length (between (place % page) last bytes) ≡ last - place % page =
    length-between bytes (place % page) last (omega (arith, l, most)) in
    let j : k < last - place % page = omega (arith, hk, lp) in
    let inside : place < image.geometry.pages * page =
    let s : page * image.geometry.pages ≡ extent_bytes image.geometry = ap (λ p. p * image.geometry.pages) same in
    omega (arith, s, within) in
    let q : place / page < image.geometry.pages = div_below place page image.geometry.pages pos inside in
    let i : place + k ≡ place / page * page + (place % page + k) = omega (arith, div-add-mod' place page) in
    ap (image_byte image e) (i ∙ ap (λ p. place / page * p + (place % page + k)) same)
    ∙ byte-page image e (place / page) (place % page + k) bytes read (l ∙ same) q (omega (arith, j, most, same))
    ∙ ap Some (sym (get_or-between bytes (place % page) last k 0 (omega (arith, j))))
