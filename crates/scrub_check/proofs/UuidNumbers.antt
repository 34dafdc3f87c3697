-- UUIDs as numbers: which number is whose, and the numbers of the chunks of one extent after another.
use Rattle.std.proofs.Common.{[], ap, append_assoc, arith, get_or, inl, inr, length, List, None, Option, Some, suc, sym, take, zero, ℕ, ◌*◌, ◌+◌, ◌++◌, ◌<◌, ◌∙◌, ◌∷◌, ◌≡◌, ◌≤◌}
use Rattle.std.specs.Bool.{Decides}
use Rattle.std.specs.List.{cons_option, filter_map}
use Rattle.std.specs.Prelude.{◌==◌}
use Rattle.std.specs.Str.{bytes_eq}
use Rattle.std.proofs.lemmas.Bool.{cases_lt}
use Rattle.std.proofs.lemmas.Bool.Decides.{Decides-eqb, same_from_decides}
use Rattle.std.proofs.lemmas.Grind.{same_number_lists}
use Rattle.std.proofs.lemmas.List.{append-nil, map-append, take_more}
use Rattle.std.proofs.lemmas.List.Elements.{All-append, All-push, filter_map-append}
use Rattle.std.proofs.lemmas.Nat.{same_from_place}
use Rattle.std.proofs.lemmas.Slice.Eq.{bytes_eq-Decides}
use Rattle.scrub_scan.specs.declared.item.Item.{Item}
use Rattle.scrub_check.specs.Chunks.{place_of}
use Rattle.scrub_check.specs.declared.lists.place.Place.{Place}
use Rattle.scrub_check.specs.steps.ChunkUuids.{AddsNumbers, AreSixteen, number_of, numbers_of}

-- ---- sixteen bytes and the number that they spell

-- the number that the bytes up to a place spell
abbrev worth : List ℕ → ℕ → ℕ
worth x zero = get_or x 0 0
worth x (suc k) = worth x k * 256 + get_or x (suc k) 0

number_is : (x : List ℕ) → number_of x ≡ worth x 15
number_is x = omega arith

-- bytes that spell the same number are the same
same_bytes : (x y : List ℕ) → ((i : ℕ) → get_or x i 0 < 256) → ((i : ℕ) → get_or y i 0 < 256) → (k : ℕ) → worth x k ≡ worth y k →
    (i : ℕ) → i ≤ k → get_or x i 0 ≡ get_or y i 0
same_bytes x y small_x small_y zero same i within =
    let first : i ≡ 0 = omega (arith, within) in
    rw first same
same_bytes x y small_x small_y (suc k) same i within =
    let parts =
    same_from_place (worth x k) (get_or x (suc k) 0) (worth y k) (get_or y (suc k) 0) 256 (small_x (suc k)) (small_y (suc k)) same in
    elim (cases_lt i (suc k)) [
      | inl before ↦ same_bytes x y small_x small_y k parts.0 i (omega (arith, before))
      | inr last ↦ let here : i ≡ suc k = omega (arith, within, last) in rw here parts.1
    ]

same_number : (x y : List ℕ) → AreSixteen x → AreSixteen y → number_of x ≡ number_of y → x ≡ y
same_number x y hx hy same =
    same_number_lists x y (hx.sixteen ∙ sym hy.sixteen)
    (λ k within. same_bytes x y hx.bytes hy.bytes 15 (sym (number_is x) ∙ same ∙ number_is y) k (omega (arith, within, hx.sixteen)))

-- so the numbers tell UUIDs apart
pub same_test : (x y : List ℕ) → AreSixteen x → AreSixteen y → (number_of x == number_of y) ≡ bytes_eq x y
same_test x y hx hy = same_from_decides (number_of x == number_of y) (bytes_eq x y) decides (bytes_eq-Decides x y)
  where
    decides : Decides (number_of x == number_of y) (x ≡ y)
    decides = (
      λ t. same_number x y hx hy ((Decides-eqb (number_of x) (number_of y)).0 t),
      λ same. (Decides-eqb (number_of x) (number_of y)).1 (ap number_of same),
    )

-- ---- numbers added one by one

-- without chunks nothing is added
pub AddsNumbers-none : (before : List ℕ) → AddsNumbers before [] before
AddsNumbers-none before = record { each = λ k d lt. absurd (omega (arith, lt)); numbers = sym (append-nil before) }

-- what is added after what is added
pub AddsNumbers-append : (before middle after : List ℕ) (chunks more : List Place) → AddsNumbers before chunks middle →
    AddsNumbers middle more after → AddsNumbers before (chunks ++ more) after
AddsNumbers-append before middle after chunks more first second = record {
  each = All-append (λ p. AreSixteen p.uuid) chunks more first.each second.each;
  numbers =
      second.numbers ∙ ap (λ ns. ns ++ numbers_of more) first.numbers ∙ append_assoc before (numbers_of chunks) (numbers_of more)
      ∙ ap (λ ns. before ++ ns) (sym (map-append (λ (p : Place). number_of p.uuid) chunks more));
}

-- the number of one chunk
AddsNumbers-one : (before : List ℕ) (chunk : Place) (number : ℕ) → AreSixteen chunk.uuid → number ≡ number_of chunk.uuid →
    AddsNumbers before (chunk ∷ []) (before ++ number ∷ [])
AddsNumbers-one before chunk number own is = record {
  each = All-push (λ p. AreSixteen p.uuid) [] chunk (λ k d lt. absurd (omega (arith, lt))) own;
  numbers = ap (λ n. before ++ n ∷ []) is;
}

-- the chunks among one item more
chunks_next : (e : ℕ) (items : List Item) (i : ℕ) (item : Item) (o : Option Place) → i < length items → item ≡ get_or items i item →
    o ≡ place_of e item →
    filter_map (place_of e) (take (i + 1) items) ≡ filter_map (place_of e) (take i items) ++ cons_option o []
chunks_next e items i item o below is of_item =
    ap (filter_map (place_of e)) (take_more items i item below ∙ ap (λ x. take i items ++ x ∷ []) (sym is))
    ∙ filter_map-append (place_of e) (take i items) (item ∷ [])
    ∙ ap (λ p. filter_map (place_of e) (take i items) ++ cons_option p []) (sym of_item)

-- the next item is a chunk
pub next_chunk : (e : ℕ) (items : List Item) (i : ℕ) (item : Item) (o : Option Place) (chunk : Place)
    (before so_far : List ℕ) (number : ℕ) → i < length items → item ≡ get_or items i item → o ≡ place_of e item → o ≡ Some chunk →
    AreSixteen chunk.uuid → number ≡ number_of chunk.uuid → AddsNumbers before (filter_map (place_of e) (take i items)) so_far →
    AddsNumbers before (filter_map (place_of e) (take (i + 1) items)) (so_far ++ number ∷ [])
next_chunk e items i item o chunk before so_far number below is of_item some own its added =
    rw (chunks_next e items i item o below is of_item, some)
    (AddsNumbers-append before so_far (so_far ++ number ∷ []) (filter_map (place_of e) (take i items)) (chunk ∷ []) added
    (AddsNumbers-one so_far chunk number own its))

-- the next item is none
pub next_other : (e : ℕ) (items : List Item) (i : ℕ) (item : Item) (o : Option Place) (before so_far : List ℕ) → i < length items →
    item ≡ get_or items i item → o ≡ place_of e item → o ≡ None → AddsNumbers before (filter_map (place_of e) (take i items)) so_far →
    AddsNumbers before (filter_map (place_of e) (take (i + 1) items)) so_far
next_other e items i item o before so_far below is of_item none added =
    rw (chunks_next e items i item o below is of_item, none)
    (AddsNumbers-append before so_far so_far (filter_map (place_of e) (take i items)) [] added (AddsNumbers-none so_far))
