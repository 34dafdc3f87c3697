-- A cursor over sorted places: what it has passed, and what it finds.
use Rattle.std.proofs.Common.{◌≡◌, ◌<◌, ◌≤◌, ◌+◌, ℕ, true, false, List, length, get_or, arith, refl, sym, ◌∙◌, ap, nat_lt, inl, inr, Ok, Err, Ordering, Less, Equal, Greater, nat_cmp, is_eq, is_lt}
use Rattle.std.specs.Ordering.{ordering_then, ordering_index}
use Rattle.std.specs.Cmp.{ranked}
use Rattle.std.specs.List.{count_by}
use Rattle.std.specs.List.Sorted.{IsSorted}
use Rattle.std.proofs.lemmas.Bool.{true≢false, cases_eq, false_from_ne_true, ltb-true}
use Rattle.std.proofs.lemmas.List.{get_or_default}
use Rattle.list_facts.proofs.Sorted.{rises_against}
use Rattle.scrub_check.specs.declared.lists.cursor.Cursor.{Cursor}
use Rattle.scrub_check.specs.declared.places.chunk_at.ChunkAt.{ChunkAt}
use Rattle.scrub_check.specs.steps.Places.{chunk_at_cmp, is_place}
use Rattle.scrub_check.specs.steps.LiveAndOrphans.{LiesBefore, AreBefore, IsFirstFrom, HasPassed}
use Rattle.scrub_check.proofs.SortedPlaces.{place_total, found_counts}

-- A place that is below another lies before its byte.
pub less_before : (a b p q : ℕ) → is_lt (ordering_then (nat_cmp a b) (nat_cmp p q)) ≡ true → (a ≤ b) × (a ≡ b → p < q)
less_before a b p q less = by (nat_cmp a b) (nat_cmp p q) refl refl less
  where
    by : (r o : Ordering) → r ≡ nat_cmp a b → o ≡ nat_cmp p q → is_lt (ordering_then r o) ≡ true → (a ≤ b) × (a ≡ b → p < q)
    by Less o x y h = let lt : a < b = ranked a b Less x in (omega (arith, lt), λ same. absurd (omega (arith, lt, same)))
    by Equal Less x y h =
        let e : a ≡ b = ranked a b Equal x in
        let lt : p < q = ranked p q Less y in
        (omega (arith, e), λ same. lt)
    by Equal Equal x y h = absurd (true≢false (sym h))
    by Equal Greater x y h = absurd (true≢false (sym h))
    by Greater o x y h = absurd (true≢false (sym h))

-- and the other way round
before_less : (a b p q : ℕ) → (a ≤ b) → (a ≡ b → p < q) → ordering_then (nat_cmp a b) (nat_cmp p q) ≡ Less
before_less a b p q low inner = by (nat_cmp a b) (nat_cmp p q) refl refl
  where
    by : (r o : Ordering) → r ≡ nat_cmp a b → o ≡ nat_cmp p q → ordering_then r o ≡ Less
    by Less o x y = refl
    by Equal Less x y = refl
    by Equal Equal x y =
        let e : p ≡ q = ranked p q Equal y in
        let lt : p < q = inner (ranked a b Equal x) in
        absurd (omega (arith, e, lt))
    by Equal Greater x y =
        let gt : q < p = ranked p q Greater y in
        let lt : p < q = inner (ranked a b Equal x) in
        absurd (omega (arith, gt, lt))
    by Greater o x y = let gt : b < a = ranked a b Greater x in absurd (omega (arith, gt, low))

-- a place that compares as less lies before
pub less_lies_before : (t s : ChunkAt) → is_lt (chunk_at_cmp t s) ≡ true → LiesBefore s.extent s.offset t
less_lies_before t s less = less_before t.extent s.extent t.offset s.offset less

lies_before_less : (t s : ChunkAt) → LiesBefore s.extent s.offset t → chunk_at_cmp t s ≡ Less
lies_before_less t s before = before_less t.extent s.extent t.offset s.offset before.0 before.1

-- one more place lies before a byte
pub before_more : (starts : List ChunkAt) (n e p : ℕ) (d : ChunkAt) → n < length starts → AreBefore starts n e p →
    LiesBefore e p (get_or starts n d) → AreBefore starts (n + 1) e p
before_more starts n e p d inside before here k f lt = elim (cases_eq k n) [
  | inl same ↦ moved k same
  | inr differ ↦ before k f (omega (arith, lt, differ))
]
  where
    at : get_or starts n d ≡ get_or starts n f
    at = get_or_default starts n d f inside

    moved : (m : ℕ) → m ≡ n → LiesBefore e p (get_or starts m f)
    moved m same =
        let there : get_or starts n d ≡ get_or starts m f = at ∙ ap (λ (i : ℕ). get_or starts i f) (sym same) in
        let number : (get_or starts n d).extent ≡ (get_or starts m f).extent = ap (λ (s : ChunkAt). s.extent) there in
        let byte : (get_or starts n d).offset ≡ (get_or starts m f).offset = ap (λ (s : ChunkAt). s.offset) there in (
          omega (arith, here.0, number),
          λ is. let lt : (get_or starts n d).offset < p = here.1 (number ∙ is) in omega (arith, lt, byte),
        )

-- what was passed lies before any later byte, too
pub passed_further : (c : Cursor) (e p f q : ℕ) → HasPassed c e p → e ≤ f → (e ≡ f → p ≤ q) → HasPassed c f q
passed_further c e p f q h later within = record {
  sorted = h.sorted;
  within = h.within;
  before = λ k d lt.
      let at : LiesBefore e p (get_or c.starts.now k d) = h.before k d lt in (
        omega (arith, at.0, later),
        λ same.
            let one : e ≡ f = omega (arith, at.0, later, same) in
            let low : (get_or c.starts.now k d).offset < p = at.1 (omega (arith, same, one)) in
            let up : p ≤ q = within one in
            omega (arith, low, up),
      );
}

top : (q : Ordering) → ordering_index Greater ≤ ordering_index q → q ≡ Greater
top Greater h = refl
top Less h = absurd (omega (arith, h))
top Equal h = absurd (omega (arith, h))

-- past the last of the places, none is found
pub found_nowhere : (starts : List ChunkAt) (s : ChunkAt) (n : ℕ) → IsSorted chunk_at_cmp starts → IsFirstFrom starts s n →
    length starts ≤ n → nat_lt n (length starts) ≡ nat_lt 0 (count_by (is_place s) starts)
found_nowhere starts s n sorted first end =
    let none : nat_lt n (length starts) ≡ false =
    false_from_ne_true (nat_lt n (length starts))
    (λ more. let lt = ltb-true n (length starts) more in omega (arith, lt, end)) in
    none
    ∙ found_counts starts s (Err n) sorted first.within
    (λ rises. (λ k d from lt. lies_before_less (get_or starts k d) s (first.before k d lt), λ k d from lt. absurd (omega (arith, from, lt, end))))

-- a place is found exactly if it is the first one that isn't below itself
pub found_first : (starts : List ChunkAt) (s d : ChunkAt) (n : ℕ) (r : Ordering) → IsSorted chunk_at_cmp starts →
    IsFirstFrom starts s n → n < length starts → chunk_at_cmp (get_or starts n d) s ≡ r →
    is_eq r ≡ nat_lt 0 (count_by (is_place s) starts)
found_first starts s d n Less sorted first inside is = absurd (true≢false (sym (ap is_lt is) ∙ first.next d inside))
found_first starts s d n Equal sorted first inside is =
    found_counts starts s (Ok n) sorted inside
    (λ f. ap (λ (t : ChunkAt). chunk_at_cmp t s) (get_or_default starts n f d inside) ∙ is)
found_first starts s d n Greater sorted first inside is =
    found_counts starts s (Err n) sorted first.within
    (λ rises. (
      λ k f from lt. lies_before_less (get_or starts k f) s (first.before k f lt),
      λ k f from lt.
          let up : ordering_index (chunk_at_cmp (get_or starts n f) s) ≤ ordering_index (chunk_at_cmp (get_or starts k f) s) =
          rises_against place_total starts s sorted n k f from lt in
          let there : chunk_at_cmp (get_or starts n f) s ≡ Greater =
          ap (λ (t : ChunkAt). chunk_at_cmp t s) (get_or_default starts n f d inside) ∙ is in
          top (chunk_at_cmp (get_or starts k f) s) (let same = ap ordering_index there in omega (arith, up, same)),
    ))
