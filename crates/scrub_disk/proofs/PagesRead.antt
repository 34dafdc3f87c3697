-- The pages of an extent, read one after another into its bytes.
use Rattle.std.proofs.Common.{rules, ◌≡◌, ◌<◌, ◌≤◌, ◌+◌, ◌*◌, ◌-◌, ℕ, List, Bool, false, cond, [], ◌∷◌, ◌++◌, length, get_or, arith, refl, sym, ◌∙◌, ap, inl, inr, Option, Some, None, Result, Ok, Err, OnOk, OnErr, is_ok, Vec, Global}
use Rattle.std.proofs.lemmas.Bool.{cases_lt}
use Rattle.std.specs.List.{between}
use Rattle.std.specs.Vec.{with_items}
use Rattle.std.proofs.lemmas.List.{get_or_append_left, get_or_push, length_push, same_lists, places, with_items_is}
use Rattle.std.proofs.lemmas.List.Edits.{length-between, get_or-between}
use Rattle.std.proofs.Math.Nat.{mul-le-mul_left}
use borrow.Rule.Slice.PartMut.{put_mid}
use Rattle.std.proofs.lemmas.Slice.{between-put_mid}
use Rattle.scrub_disk.proofs.Writes.{length-put}
use Rattle.scrub_disk.specs.Image.{Image, extent_bytes}
use Rattle.scrub_disk.specs.Buffered.{IsBuffered}

-- the place of page q's bytes
abbrev pub page_bytes : ℕ → ℕ → List ℕ → List ℕ
page_bytes page q bytes = between (q * page) (q * page + page) bytes

-- it is known which of the first n pages are readable, and the bytes have those at their places
pub record PagesRead (page_at : ℕ → Option (List ℕ)) (page n : ℕ) (bytes : List ℕ) (readable : List Bool) : Type 0 where
  pub count : length readable ≡ n
  pub each : (q : ℕ) → q < n → page_at q ≡ cond (get_or readable q false) (Some (page_bytes page q bytes)) None

-- what the answer of a read says of the page: `part` is what was read
pub page_answered : {E : Type 0} (r : Result (Unit {0}) E) (page : Option (List ℕ)) (part : List ℕ) →
    OnOk r (page ≡ Some part) → OnErr r (page ≡ None) → page ≡ cond (is_ok r) (Some part) None
page_answered (Ok x) page part ok err = ok
page_answered (Err e) page part ok err = err

-- each of n pages is within the bytes
pub page_fits : (page q n size : ℕ) → q < n → size ≡ page * n → q * page + page ≤ size
page_fits page q n size below e =
    let next : q + 1 ≤ n = omega (arith, below) in
    let room : page * (q + 1) ≤ page * n = mul-le-mul_left page next in
    omega (arith, room, e)

-- the length of the part that a page is read into
pub length-page_bytes : (page a size : ℕ) (xs ys part : List ℕ) → length part ≡ length (between a (a + page) xs) →
    xs ≡ ys → length ys ≡ size → a + page ≤ size → length part ≡ page
length-page_bytes page a size xs ys part e same l fits =
    e ∙ length-between xs a (a + page) (let m : length xs ≡ length ys = ap length same in omega (arith, m, l, fits))
    ∙ (let k : a + page - a ≡ page = omega arith in k)

-- ---- one more page

-- a part below a write is as it was
part_below_write : (xs ys : List ℕ) (i j a n : ℕ) → j ≤ a → a + n ≤ length xs → length ys ≡ n →
    between i j (put_mid a n xs ys) ≡ between i j xs
part_below_write xs ys i j a n below fits l =
    let m : length (put_mid a n xs ys) ≡ length xs = length-put xs ys a n fits l in
    let lj : length (between i j (put_mid a n xs ys)) ≡ j - i =
    length-between (put_mid a n xs ys) i j (omega (arith, m, below, fits)) in
    let lk : length (between i j xs) ≡ j - i = length-between xs i j (omega (arith, below, fits)) in
    same_lists _ _ (lj ∙ sym lk)
    (λ k d hk. get_or-between (put_mid a n xs ys) i j k d (omega (arith, hk, lj)) ∙ (let here : i + k < a = omega (arith, hk, lj, below) in at_place (i + k) d here) ∙ sym (get_or-between xs i j k d (omega (arith, hk, lj))))
  where
    at_place : (k : ℕ) (d : ℕ) → k < a → get_or (put_mid a n xs ys) k d ≡ get_or xs k d
    at_place k d hk = search (rules, places)

one_more_page : (page_at : ℕ → Option (List ℕ)) (page n : ℕ) (bytes part : List ℕ) (readable : List Bool) (b : Bool) →
    PagesRead page_at page n bytes readable → n * page + page ≤ length bytes → length part ≡ page →
    page_at n ≡ cond b (Some part) None →
    PagesRead page_at page (n + 1) (put_mid (n * page) page bytes part) (readable ++ b ∷ [])
one_more_page page_at page n bytes part readable b h fits l answered = record {
  count = length_push readable b ∙ ap (λ m. m + 1) h.count;
  each = λ q hq. elim (cases_lt q n) [
    | inl below ↦
        let next : q + 1 ≤ n = omega (arith, below) in
        let room : page * (q + 1) ≤ page * n = mul-le-mul_left page next in
        let same : page_bytes page q (put_mid (n * page) page bytes part) ≡ page_bytes page q bytes =
        part_below_write bytes part (q * page) (q * page + page) (n * page) page (omega (arith, room)) fits l in
        h.each q below
        ∙ ap (λ m. cond m (Some (page_bytes page q bytes)) None)
        (sym (get_or_append_left readable (b ∷ []) false q (omega (arith, below, h.count))))
        ∙ ap (λ s. cond (get_or (readable ++ b ∷ []) q false) (Some s) None) (sym same)
    | inr above ↦
        let e : q ≡ n = omega (arith, hq, above) in
        rw e (answered
        ∙ ap (λ m. cond m (Some part) None) (sym (get_or_push readable b false n h.count))
        ∙ ap (λ s. cond (get_or (readable ++ b ∷ []) n false) (Some s) None) (sym (written (n * page) refl)))
  ];
}
  where
    written : (a : ℕ) → a ≡ n * page → between a (a + page) (put_mid a page bytes part) ≡ part
    written a e =
        between-put_mid a page bytes part (a + page) (omega (arith, fits, e))
        (l ∙ (let m : page ≡ a + page - a = omega arith in m))

-- the same of a `Vec` after a page was read into a part of it
pub one_more_page_in_vec : (page_at : ℕ → Option (List ℕ)) (page n size : ℕ) (v : Vec ℕ Global) (xs part : List ℕ) (readable after : List Bool) (b : Bool) →
    length v.items ≡ size → PagesRead page_at page n v.items readable → n * page + page ≤ size → xs ≡ v.items →
    length part ≡ page → page_at n ≡ cond b (Some part) None → after ≡ readable ++ b ∷ [] →
    (length ((with_items v (put_mid (n * page) (n * page + page - n * page) xs part)).items) ≡ size) × PagesRead page_at page (n + 1) ((with_items v (put_mid (n * page) (n * page + page - n * page) xs part)).items) after
one_more_page_in_vec page_at page n size v xs part readable after b l h fits hx lz answered pushed' =
    let k : n * page + page - n * page ≡ page = omega arith in
    let m : length (put_mid (n * page) page v.items part) ≡ length v.items =
    length-put v.items part (n * page) page (omega (arith, fits, l)) lz in
    let same : (with_items v (put_mid (n * page) page v.items part)).items ≡ put_mid (n * page) page v.items part =
    with_items_is v (put_mid (n * page) page v.items part) (m ∙ sym v.ok.0) in
    rw (k, hx, same, pushed')
    (m ∙ l, one_more_page page_at page n v.items part readable b h (omega (arith, fits, l)) lz answered)

-- ---- all pages

-- what was read is the extent
pub all_pages_read : (image : Image) (e page n : ℕ) (bytes : List ℕ) (readable : List Bool) →
    page ≡ image.geometry.page → n ≡ image.geometry.pages →
    length bytes ≡ extent_bytes image.geometry → PagesRead (image.page e) page n bytes readable →
    IsBuffered image e bytes readable
all_pages_read image e page n bytes readable hp hn l h = record {
  size = l;
  count = h.count ∙ hn;
  pages = λ q hq.
      h.each q (omega (arith, hq, hn)) ∙ ap (λ m. cond (get_or readable q false) (Some (page_bytes m q bytes)) None) hp;
}
