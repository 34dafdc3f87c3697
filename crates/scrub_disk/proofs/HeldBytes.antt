-- The bytes of the image that a list of bytes and a list of marks hold, and what a write or a mark changes of them.
use Rattle.std.proofs.Common.{◌≡◌, ◌<◌, ◌≤◌, ◌+◌, ◌*◌, ◌/◌, ◌%◌, ◌-◌, ℕ, List, Bool, true, false, cond, length, get_or, arith, refl, sym, ◌∙◌, ap, Option, Some, None, nat_lt, slice_get, option_and_then, option_map, set, replicate, get_or-set_same, get_or-set_other, ◌≢◌, ◌⊎◌, inl, inr}
use Rattle.std.proofs.Math.Nat.{mul-le-mul_left, mod-lt}
use Rattle.std.proofs.lemmas.Nat.{div-add-mod', div_below, row_fits, div-mul-add, mod-mul-add}
use Rattle.std.proofs.lemmas.Option.{slice_get-get_or}
use Rattle.std.proofs.lemmas.List.Edits.{length-between, get_or-between}
use Rattle.std.specs.List.{between}
use Rattle.std.proofs.lemmas.List.{get_or-replicate, length-replicate, same_lists, get_or_read, with_items_is}
use borrow.Rule.Slice.PartMut.{put_mid}
use Rattle.std.specs.Vec.{with_items}
use Rattle.std.proofs.Common.{Vec, Global}
use Rattle.std.proofs.lemmas.Bool.{cases_lt, lt-ltb}
use Rattle.scrub_disk.specs.Memory.{IsBlank, Puts, Marks}
use Rattle.scrub_disk.specs.declared.geometry.Geometry.{Geometry}
use Rattle.scrub_disk.specs.Image.{Image, image_byte}
use Rattle.scrub_disk.specs.BytesAndMarks.{held}
use Rattle.scrub_disk.specs.steps.WholePages.{page_room}
use Rattle.scrub_disk.proofs.Writes.{put_within, put_outside, length-put}

-- the place of byte i of extent e among all bytes, for P bytes a page and N pages an extent
pub byte_place_of_page : (P N e i : ℕ) → (e * N + i / P) * P + i % P ≡ e * (P * N) + i
byte_place_of_page P N e i = omega (arith, div-add-mod' i P)

-- the page of byte i is among all pages
pub page_within : (P N E e i : ℕ) → 0 < P → e < E → i < P * N → (e * N + i / P) * P + P ≤ P * N * E
page_within P N E e i pos he hi = (page_room P N E e (i / P) he (div_below i P N pos (omega arith))).1

-- byte k of page n of all pages, which have P bytes each
pub in_page : (bytes : List ℕ) (n P k : ℕ) → k < P → n * P + P ≤ length bytes →
    slice_get (between (n * P) (n * P + P) bytes) k ≡ Some (get_or bytes (n * P + k) 0)
in_page bytes n P k hk fits =
    let l : length (between (n * P) (n * P + P) bytes) ≡ n * P + P - n * P =
    length-between bytes (n * P) (n * P + P) fits in
    slice_get-get_or (between (n * P) (n * P + P) bytes) k 0 (omega (arith, l))
    ∙ ap Some (get_or-between bytes (n * P) (n * P + P) k 0 (omega arith))

-- byte i of extent e of the image that bytes and marks hold
pub byte-held : (g : Geometry) (bytes : List ℕ) (unreadable : List Bool) (e i : ℕ) →
    length bytes ≡ g.page * g.pages * g.extents → e < g.extents → i < g.page * g.pages →
    image_byte (held g bytes unreadable) e i
    ≡ cond (get_or unreadable (e * g.pages + i / g.page) false) None (Some (get_or bytes (e * (g.page * g.pages) + i) 0))
byte-held g bytes unreadable e i l he hi =
    let pos : 0 < g.page = omega (arith, g.page_least) in
    let w : (e * g.pages + i / g.page) * g.page + g.page ≤ length bytes =
    omega (arith, page_within g.page g.pages g.extents e i pos he hi, l) in
    let at : slice_get (between ((e * g.pages + i / g.page) * g.page) ((e * g.pages + i / g.page) * g.page + g.page) bytes) (i % g.page) ≡ Some (get_or bytes (e * (g.page * g.pages) + i) 0) =
    in_page bytes (e * g.pages + i / g.page) g.page (i % g.page) (mod-lt i pos) w
    ∙ ap (λ n. Some (get_or bytes n 0)) (byte_place_of_page g.page g.pages e i) in
    let here : nat_lt i (g.page * g.pages) ≡ true = lt-ltb i (g.page * g.pages) hi in
    ap
    (λ t. cond t (byte_of_page (get_or unreadable (e * g.pages + i / g.page) false) ((e * g.pages + i / g.page) * g.page)) None)
    here
    ∙ by_mark (get_or unreadable (e * g.pages + i / g.page) false) _ _ (i % g.page) at
  where
    byte_of_page : Bool → ℕ → Option ℕ
    byte_of_page b from =
        option_and_then (λ s. slice_get s (i % g.page)) (cond b None (Some (between from (from + g.page) bytes)))

    by_mark : (b : Bool) (page : List ℕ) (x k : ℕ) → slice_get page k ≡ Some x →
        option_and_then (λ s. slice_get s k) (cond b None (Some page)) ≡ cond b None (Some x)
    by_mark true page x k h = refl
    by_mark false page x k h = h

-- a marked page is unreadable
pub marked_page : (g : Geometry) (bytes : List ℕ) (unreadable : List Bool) (e p : ℕ) →
    get_or unreadable (e * g.pages + p) false ≡ true → (held g bytes unreadable).page e p ≡ None
marked_page g bytes unreadable e p h = rw h refl

-- if two pages have the same number, they have the same extent and are the same page of it
pub apart : (N e p f q : ℕ) → p < N → q < N → e * N + p ≡ f * N + q → (e ≡ f) × (p ≡ q)
apart N e p f q hp hq eq = (
  (sym (div-mul-add e N p hp) ∙ ap (λ n. n / N) eq) ∙ div-mul-add f N q hq,
  (sym (mod-mul-add e N p hp) ∙ ap (λ n. n % N) eq) ∙ mod-mul-add f N q hq,
)

-- what a mark on one page changes
pub marks : (g : Geometry) (bytes : List ℕ) (unreadable : List Bool) (e p : ℕ) → length unreadable ≡ g.pages * g.extents →
    e < g.extents → p < g.pages →
    Marks (held g bytes unreadable) (held g bytes (set unreadable (e * g.pages + p) true)) e p
marks g bytes unreadable e p l he hp =
    let r : e * g.pages + g.pages ≤ g.extents * g.pages = row_fits e g.pages g.extents g.pages he (omega arith) in
    let within : e * g.pages + p < length unreadable = omega (arith, l, r) in
    record {
      geometry = refl;
      marked =
          marked_page g bytes (set unreadable (e * g.pages + p) true) e p
          (get_or-set_same unreadable (e * g.pages + p) true false within);
      others = λ f q hf hq ne.
          let away : (f * g.pages + q) ≢ (e * g.pages + p) = λ eq. let a = apart g.pages f q e p hq hp eq in elim ne [
            | inl n ↦ n a.0
            | inr n ↦ n a.1
          ] in
          ap
          (λ b. cond b None (Some (between ((f * g.pages + q) * g.page) ((f * g.pages + q) * g.page + g.page) bytes)))
          (get_or-set_other unreadable (e * g.pages + p) (f * g.pages + q) true false away);
    }

-- a disk of zeros is blank
pub blank : (g : Geometry) →
    IsBlank (held g (replicate (g.page * (g.pages * g.extents)) 0) (replicate (g.pages * g.extents) false)) g
blank g = record {
  geometry = refl;
  zero = λ e p he hp.
      let r : e * g.pages + g.pages ≤ g.extents * g.pages = row_fits e g.pages g.extents g.pages he (omega arith) in
      let n : e * g.pages + p < g.pages * g.extents = omega (arith, r) in
      let s : e * g.pages + p + 1 ≤ g.pages * g.extents = omega (arith, n) in
      let t : g.page * (e * g.pages + p + 1) ≤ g.page * (g.pages * g.extents) = mul-le-mul_left g.page s in
      ap
      (λ b. cond b None (Some (between {X = ℕ} ((e * g.pages + p) * g.page) ((e * g.pages + p) * g.page + g.page) (replicate (g.page * (g.pages * g.extents)) 0))))
      (get_or-replicate (g.pages * g.extents) (e * g.pages + p) false false n)
      ∙ ap Some (zeros ((e * g.pages + p) * g.page) g.page (g.page * (g.pages * g.extents)) (omega (arith, t)));
}
  where
    zeros : (a n m : ℕ) → a + n ≤ m → between {X = ℕ} a (a + n) (replicate m 0) ≡ replicate n 0
    zeros a n m h =
        same_lists _ _
        (length-between (replicate m 0) a (a + n) (omega (arith, length-replicate {A = ℕ} m 0)) ∙ (let e : a + n - a ≡ n = omega arith in e) ∙ sym (length-replicate {A = ℕ} n 0))
        (λ k d hk.
        let l : length (between {X = ℕ} a (a + n) (replicate m 0)) ≡ a + n - a =
        length-between (replicate m 0) a (a + n) (omega (arith, length-replicate {A = ℕ} m 0)) in
        get_or-between (replicate m 0) a (a + n) k d (omega (arith, l))
        ∙ get_or-replicate m (a + k) 0 d (omega (arith, l)) ∙ sym (get_or-replicate n k 0 d (omega (arith, l))))

-- what a write of the bytes ys at an offset of extent e changes
pub puts : (g : Geometry) (xs ys new : List ℕ) (unreadable : List Bool) (e offset : ℕ) →
    length xs ≡ g.page * g.pages * g.extents → length new ≡ length xs → e < g.extents →
    offset + length ys ≤ g.page * g.pages →
    ((k : ℕ) → k < length ys → get_or new (e * (g.page * g.pages) + offset + k) 0 ≡ get_or ys k 0) →
    ((i : ℕ) → i < length xs → (i < e * (g.page * g.pages) + offset) ⊎ (e * (g.page * g.pages) + offset + length ys ≤ i) → get_or new i 0 ≡ get_or xs i 0) →
    Puts (held g xs unreadable) (held g new unreadable) e offset ys
puts g xs ys new unreadable e offset l m he fits inside outside = record {
  geometry = refl;
  written = λ k hk.
      let i : offset + k < g.page * g.pages = omega arith in
      byte-held g new unreadable e (offset + k) (m ∙ l) he i
      ∙ ap (λ n. cond (get_or unreadable (e * g.pages + (offset + k) / g.page) false) None (Some n))
      (ap (λ n. get_or new n 0) (let q : e * (g.page * g.pages) + (offset + k) ≡ e * (g.page * g.pages) + offset + k = omega arith in q) ∙ inside k hk)
      ∙ mapped (get_or unreadable (e * g.pages + (offset + k) / g.page) false) (get_or ys k 0)
      (get_or xs (e * (g.page * g.pages) + (offset + k)) 0)
      ∙ ap (option_map (λ _. get_or ys k 0)) (sym (byte-held g xs unreadable e (offset + k) l he i));
  kept = λ i hi away.
      byte-held g new unreadable e i (m ∙ l) he hi
      ∙ ap (λ n. cond (get_or unreadable (e * g.pages + i / g.page) false) None (Some n))
      (outside (e * (g.page * g.pages) + i) (within e i he hi) (elim away [ inl h ↦ inl (omega arith) | inr h ↦ inr (omega arith) ]))
      ∙ sym (byte-held g xs unreadable e i l he hi);
  others = λ f i hf hi ne.
      byte-held g new unreadable f i (m ∙ l) hf hi
      ∙ ap (λ n. cond (get_or unreadable (f * g.pages + i / g.page) false) None (Some n))
      (outside (f * (g.page * g.pages) + i) (within f i hf hi) (elsewhere f i hi ne))
      ∙ sym (byte-held g xs unreadable f i l hf hi);
}
  where
    mapped : (b : Bool) (x y : ℕ) → cond b None (Some x) ≡ option_map (λ _. x) (cond b None (Some y))
    mapped true x y = refl
    mapped false x y = refl

    within : (f i : ℕ) → f < g.extents → i < g.page * g.pages → f * (g.page * g.pages) + i < length xs
    within f i hf hi =
        let r : f * (g.page * g.pages) + g.page * g.pages ≤ g.extents * (g.page * g.pages) = row_fits f (g.page * g.pages) g.extents (g.page * g.pages) hf (omega arith) in
        omega (arith, l, r)

    elsewhere : (f i : ℕ) → i < g.page * g.pages → f ≢ e →
        (f * (g.page * g.pages) + i < e * (g.page * g.pages) + offset) ⊎ (e * (g.page * g.pages) + offset + length ys ≤ f * (g.page * g.pages) + i)
    elsewhere f i hi ne = elim (cases_lt f e) [
      | inl h ↦
          let r : f * (g.page * g.pages) + g.page * g.pages ≤ e * (g.page * g.pages) = row_fits f (g.page * g.pages) e (g.page * g.pages) h (omega arith) in
          inl (omega (arith, r))
      | inr h ↦
          let above : e < f = omega arith in
          let r : e * (g.page * g.pages) + g.page * g.pages ≤ f * (g.page * g.pages) = row_fits e (g.page * g.pages) f (g.page * g.pages) above (omega arith) in
          inr (omega (arith, r))
    ]

-- a page whose mark was read and is set is unreadable
pub read_marked : (g : Geometry) (bytes : List ℕ) (unreadable : List Bool) (e p n : ℕ) (b : Bool) →
    length unreadable ≡ g.pages * g.extents →
    e < g.extents → p < g.pages → n ≡ g.pages → b ≡ get_or unreadable (e * n + p) b → b ≡ true →
    (held g bytes unreadable).page e p ≡ None
read_marked g bytes unreadable e p n b l he hp same reads set' =
    let r : e * g.pages + g.pages ≤ g.extents * g.pages = row_fits e g.pages g.extents g.pages he (omega arith) in
    let i : e * g.pages + p < length unreadable = omega (arith, l, r) in
    let at : b ≡ get_or unreadable (e * g.pages + p) b = reads ∙ ap (λ m. get_or unreadable (e * m + p) b) same in
    marked_page g bytes unreadable e p (sym (get_or_read unreadable (e * g.pages + p) b i at false) ∙ set')

-- the same write through a slice of the vector that has the bytes, as the code makes it
pub put_all : (g : Geometry) (v : Vec ℕ Global) (ys xs zs : List ℕ) (unreadable : List Bool) (e offset size : ℕ) →
    length v.items ≡ g.page * g.pages * g.extents → e < g.extents → offset + length ys ≤ g.page * g.pages →
    size ≡ g.page * g.pages →
    xs ≡ v.items → zs ≡ ys →
    Puts (held g v.items unreadable) (held g (with_items v (put_mid (e * size + offset) (e * size + offset + length ys - (e * size + offset)) xs zs)).items unreadable) e offset ys
put_all g v ys xs zs unreadable e offset size l he fits hs hx hz =
    let r : e * (g.page * g.pages) + g.page * g.pages ≤ g.extents * (g.page * g.pages) =
    row_fits e (g.page * g.pages) g.extents (g.page * g.pages) he (omega arith) in
    let n : e * size + offset + length ys - (e * size + offset) ≡ length ys = omega arith in
    let m : length (put_mid (e * (g.page * g.pages) + offset) (length ys) v.items ys) ≡ length v.items =
    length-put v.items ys (e * (g.page * g.pages) + offset) (length ys) (omega (arith, l, r)) refl in
    let same : (with_items v (put_mid (e * (g.page * g.pages) + offset) (length ys) v.items ys)).items ≡ put_mid (e * (g.page * g.pages) + offset) (length ys) v.items ys =
    with_items_is v (put_mid (e * (g.page * g.pages) + offset) (length ys) v.items ys) (m ∙ sym v.ok.0) in
    rw (n, hs, hx, hz, same)
    (puts g v.items ys (put_mid (e * (g.page * g.pages) + offset) (length ys) v.items ys) unreadable e offset l m he fits
    (λ k hk. put_within v.items ys (e * (g.page * g.pages) + offset) (length ys) k refl (omega (arith, l, r)) hk)
    (λ i hi away. put_outside v.items ys (e * (g.page * g.pages) + offset) (length ys) i refl (omega (arith, l, r)) away hi))

-- the bytes of a page that was read, of any image: scanners that read by pages use it
pub byte-page : (d : Image) (e p k : ℕ) (page : List ℕ) → d.page e p ≡ Some page → length page ≡ d.geometry.page →
    p < d.geometry.pages → k < d.geometry.page →
    image_byte d e (p * d.geometry.page + k) ≡ Some (get_or page k 0)
byte-page d e p k page h l hp hk =
    let next : p + 1 ≤ d.geometry.pages = omega (arith, hp) in
    let room : d.geometry.page * (p + 1) ≤ d.geometry.page * d.geometry.pages = mul-le-mul_left d.geometry.page next in
    let here : nat_lt (p * d.geometry.page + k) (d.geometry.page * d.geometry.pages) ≡ true =
    lt-ltb (p * d.geometry.page + k) (d.geometry.page * d.geometry.pages) (omega (arith, room, hk)) in
    ap
    (λ t. cond t (option_and_then (λ s. slice_get s ((p * d.geometry.page + k) % d.geometry.page)) (d.page e ((p * d.geometry.page + k) / d.geometry.page))) None)
    here
    ∙ ap (λ q. option_and_then (λ s. slice_get s ((p * d.geometry.page + k) % d.geometry.page)) (d.page e q))
    (div-mul-add p d.geometry.page k hk)
    ∙ ap (λ m. option_and_then (λ s. slice_get s m) (d.page e p)) (mod-mul-add p d.geometry.page k hk)
    ∙ ap (option_and_then (λ s. slice_get s k)) h
    ∙ slice_get-get_or page k 0 (omega (arith, l, hk))

-- no byte of an unreadable page can be read
pub byte-unreadable : (d : Image) (e i : ℕ) → d.page e (i / d.geometry.page) ≡ None → image_byte d e i ≡ None
byte-unreadable d e i h =
    either (nat_lt i (d.geometry.page * d.geometry.pages))
    (ap (option_and_then (λ s. slice_get s (i % d.geometry.page))) h)
  where
    either : (b : Bool) {x : Option ℕ} → x ≡ None → cond b x None ≡ None
    either true e = e
    either false e = refl
