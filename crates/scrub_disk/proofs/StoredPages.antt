-- The text of a block, of which pages of zeros aren't stored.
use Rattle.std.proofs.Common.{◌≡◌, ◌<◌, ◌≤◌, ◌+◌, ◌-◌, ◌*◌, ◌/◌, ℕ, List, [], ◌∷◌, ◌++◌, length, length-append, append_assoc, get_or, arith, refl, sym, ◌∙◌, ap, All, Bool, true, false, cond, Option, Some, None, inl, inr, replicate}
use Rattle.std.specs.Bool.{OnFalse}
use Rattle.std.specs.List.{between, flat_map}
use Rattle.std.proofs.lemmas.List.{append-nil, get_or-map, get_or_append_left, get_or-append_right, length-replicate, same_lists, take_all}
use Rattle.std.proofs.lemmas.List.Concat.{flat_map-append}
use Rattle.std.proofs.lemmas.List.Edits.{length-between, get_or-between}
use Rattle.std.proofs.lemmas.List.Elements.{All-append, All-cons, All-get_or, All-head, All-nil, All-tail}
use Rattle.std.proofs.lemmas.Bool.{cases_lt, false≢true}
use Rattle.std.proofs.lemmas.Nat.{div-mul-add}
use Rattle.std.proofs.Math.Nat.{le_of_mul-le-mul_left}
use Rattle.scrub_disk.specs.declared.blocks.Block.{Block}
use Rattle.scrub_disk.specs.Joined.{text_at}
use Rattle.scrub_disk.specs.Stored.{HasPages, IsStored, block_text, page_text}
use Rattle.scrub_disk.specs.steps.Added.{AddsPages}
use Rattle.scrub_disk.proofs.Texts.{between-joined}

-- a row that ends within `count` rows is one of them
pub rows_below : (P row count : ℕ) → 0 < P → row * P + P ≤ P * count → row < count
rows_below P row count pos fits =
    let next : row + 1 ≤ count = le_of_mul-le-mul_left {m = row + 1} {n = count} {k = P} (omega (arith, fits)) pos in
    omega (arith, next)

-- each page has P bytes
page_size : (P : ℕ) (stored : List ℕ) (slot : Option ℕ) → IsStored P stored slot → length (page_text P stored slot) ≡ P
page_size P stored None fits = length-replicate P 0
page_size P stored (Some k) fits =
    length-between stored (k * P) (k * P + P) fits ∙ (let e : k * P + P - k * P ≡ P = omega arith in e)

-- the bytes of all pages
pub length-texts : (P : ℕ) (stored : List ℕ) (slots : List (Option ℕ)) → All (IsStored P stored) slots →
    length (flat_map (page_text P stored) slots) ≡ P * length slots
length-texts P stored [] all = omega arith
length-texts P stored (s ∷ ss) all =
    length-append (page_text P stored s) (flat_map (page_text P stored) ss)
    ∙ omega
    (arith, page_size P stored s (All-head (IsStored P stored) s ss all), length-texts P stored ss (All-tail (IsStored P stored) s ss all))

-- page j of a block
pub page_of_text : (P : ℕ) (stored : List ℕ) (slots : List (Option ℕ)) (j : ℕ) → All (IsStored P stored) slots →
    j < length slots →
    between (j * P) (j * P + P) (flat_map (page_text P stored) slots) ≡ page_text P stored (get_or slots j None)
page_of_text P stored slots j all within =
    let own : (k : ℕ) → k < length slots → text_at (page_text P stored) slots k ≡ page_text P stored (get_or slots k None) =
    λ k hk. get_or-map (page_text P stored) slots k None [] hk in
    let size : (k : ℕ) → k < length slots → length (text_at (page_text P stored) slots k) ≡ P =
    λ k hk. ap length (own k hk) ∙ page_size P stored (get_or slots k None) (All-get_or (IsStored P stored) slots k None hk all) in
    ap (λ a. between a (a + P) (flat_map (page_text P stored) slots)) (let e : j * P ≡ j * P + 0 = omega arith in e)
    ∙ between-joined (page_text P stored) slots P j 0 P (λ k hk. size k (omega (arith, hk, within))) within
    (omega (arith, size j within))
    ∙ whole P (text_at (page_text P stored) slots j) (size j within) ∙ own j within
  where
    whole : (n : ℕ) (xs : List ℕ) → length xs ≡ n → between 0 (0 + n) xs ≡ xs
    whole n xs e = take_all (0 + n - 0) xs (omega (arith, e))

-- ---- one more page

-- what is stored after the stored pages changes none
page_kept : (P : ℕ) (stored more : List ℕ) (slot : Option ℕ) → IsStored P stored slot →
    page_text P (stored ++ more) slot ≡ page_text P stored slot
page_kept P stored more None fits = refl
page_kept P stored more (Some k) fits =
    let room : k * P + P ≤ length (stored ++ more) = omega (arith, fits, length-append stored more) in
    let l : length (between (k * P) (k * P + P) (stored ++ more)) ≡ k * P + P - k * P = length-between (stored ++ more) (k * P) (k * P + P) room in
    same_lists _ _ (l ∙ sym (length-between stored (k * P) (k * P + P) fits))
    (λ i d hi.
    get_or-between (stored ++ more) (k * P) (k * P + P) i d (omega (arith, hi, l))
    ∙ get_or_append_left stored more d (k * P + i) (omega (arith, hi, l, fits))
    ∙ sym (get_or-between stored (k * P) (k * P + P) i d (omega (arith, hi, l))))

texts_kept : (P : ℕ) (stored more : List ℕ) (slots : List (Option ℕ)) → All (IsStored P stored) slots →
    flat_map (page_text P (stored ++ more)) slots ≡ flat_map (page_text P stored) slots
texts_kept P stored more [] all = refl
texts_kept P stored more (s ∷ ss) all =
    rw (page_kept P stored more s (All-head (IsStored P stored) s ss all))
    (ap (λ xs. page_text P stored s ++ xs) (texts_kept P stored more ss (All-tail (IsStored P stored) s ss all)))

slots_kept : (P : ℕ) (stored more : List ℕ) (slots : List (Option ℕ)) → All (IsStored P stored) slots →
    All (IsStored P (stored ++ more)) slots
slots_kept P stored more [] all = All-nil (IsStored P (stored ++ more))
slots_kept P stored more (s ∷ ss) all =
    All-cons (IsStored P (stored ++ more)) s ss (one s (All-head (IsStored P stored) s ss all))
    (slots_kept P stored more ss (All-tail (IsStored P stored) s ss all))
  where
    one : (slot : Option ℕ) → IsStored P stored slot → IsStored P (stored ++ more) slot
    one None fits = tt
    one (Some k) fits = omega (arith, fits, length-append stored more)

-- a page that is stored after the stored ones
pub stored_page : (P n : ℕ) (old new : Block) (page : List ℕ) → length page ≡ P → length old.bytes.items ≡ n * P →
    HasPages P old → new.bytes.items ≡ old.bytes.items ++ page → new.slots.items ≡ old.slots.items ++ Some n ∷ [] →
    (block_text P new ≡ block_text P old ++ page) × HasPages P new
stored_page P n old new page size before has same is = rw (same, is) (
  flat_map-append (page_text P (old.bytes.items ++ page)) old.slots.items (Some n ∷ [])
      ∙ ap (λ xs. xs ++ (page_text P (old.bytes.items ++ page) (Some n) ++ [])) (texts_kept P old.bytes.items page old.slots.items has)
      ∙ ap (λ xs. block_text P old ++ xs) (append-nil (page_text P (old.bytes.items ++ page) (Some n)) ∙ last),
  All-append (IsStored P (old.bytes.items ++ page)) old.slots.items (Some n ∷ [])
      (slots_kept P old.bytes.items page old.slots.items has)
      (All-cons (IsStored P (old.bytes.items ++ page)) (Some n) [] room (All-nil (IsStored P (old.bytes.items ++ page)))),
)
  where
    room : n * P + P ≤ length (old.bytes.items ++ page)
    room = omega (arith, size, before, length-append old.bytes.items page)

    last : between (n * P) (n * P + P) (old.bytes.items ++ page) ≡ page
    last =
        let l : length (between (n * P) (n * P + P) (old.bytes.items ++ page)) ≡ n * P + P - n * P = length-between (old.bytes.items ++ page) (n * P) (n * P + P) room in
        same_lists _ _ (l ∙ omega (arith, size))
        (λ i d hi.
        get_or-between (old.bytes.items ++ page) (n * P) (n * P + P) i d (omega (arith, hi, l))
        ∙ get_or-append_right old.bytes.items page (n * P) (n * P + i) d before (omega arith)
        ∙ ap (λ j. get_or page j d) (let e : n * P + i - n * P ≡ i = omega arith in e))

-- one more page of the text of a block: wherever it is kept or was zero, it has the bytes of its place
pub same_more : (P n : ℕ) (text after bytes : List ℕ) (marks : List Bool) (kept : Bool) → 0 < P →
    length text ≡ n * P → n * P + P ≤ length bytes →
    after ≡ text ++ cond kept (between (n * P) (n * P + P) bytes) (replicate P 0) →
    OnFalse (get_or marks n true) (OnFalse kept (between (n * P) (n * P + P) bytes ≡ replicate P 0)) →
    ((i : ℕ) → i < n * P → get_or marks (i / P) true ≡ false → get_or text i 0 ≡ get_or bytes i 0) →
    (i : ℕ) → i < (n + 1) * P → get_or marks (i / P) true ≡ false → get_or after i 0 ≡ get_or bytes i 0
same_more P n text after bytes marks kept pos size fits is zeros before i hi unmarked = rw is
    (elim (cases_lt i (n * P)) [
      | inl below ↦
          get_or_append_left text (cond kept (between (n * P) (n * P + P) bytes) (replicate P 0)) 0 i (omega (arith, below, size))
          ∙ before i below unmarked
      | inr above ↦ behind (i - n * P) (omega (arith, above)) (omega (arith, above, hi))
    ])
  where
    piece : (b k : Bool) → b ≡ false → OnFalse b (OnFalse k (between (n * P) (n * P + P) bytes ≡ replicate P 0)) →
        cond k (between (n * P) (n * P + P) bytes) (replicate P 0) ≡ between (n * P) (n * P + P) bytes
    piece b true e z = refl
    piece false false e z = sym z
    piece true false e z = absurd (false≢true (sym e))

    behind : (r : ℕ) → i ≡ n * P + r → r < P →
        get_or (text ++ cond kept (between (n * P) (n * P + P) bytes) (replicate P 0)) i 0 ≡ get_or bytes i 0
    behind r e hr =
        let own : i / P ≡ n = ap (λ m. m / P) e ∙ div-mul-add n P r hr in
        let clear : get_or marks n true ≡ false = ap (λ m. get_or marks m true) (sym own) ∙ unmarked in
        ap (λ xs. get_or (text ++ xs) i 0) (piece (get_or marks n true) kept clear zeros)
        ∙ get_or-append_right text (between (n * P) (n * P + P) bytes) (n * P) i 0 size (omega (arith, e))
        ∙ ap (λ m. get_or (between (n * P) (n * P + P) bytes) m 0) (let k : i - n * P ≡ r = omega (arith, e) in k)
        ∙ get_or-between bytes (n * P) (n * P + P) r 0 (omega (arith, hr))
        ∙ ap (λ m. get_or bytes m 0) (sym e)

-- and as many bytes
pub size_more : (P n : ℕ) (text after piece : List ℕ) (kept : Bool) → length text ≡ n * P → length piece ≡ P →
    after ≡ text ++ cond kept piece (replicate P 0) → length after ≡ (n + 1) * P
size_more P n text after piece true size whole is =
    ap length is ∙ length-append text piece ∙ omega (arith, size, whole)
size_more P n text after piece false size whole is =
    let zeros : length {A = ℕ} (replicate P 0) ≡ P = length-replicate P 0 in
    ap length is ∙ length-append text (replicate P 0) ∙ omega (arith, size, zeros)

-- one more page
pub adds_more : (P n : ℕ) (old before after : Block) (bytes : List ℕ) (marks : List Bool) (kept : Bool) → 0 < P →
    n * P + P ≤ length bytes → AddsPages P old before n bytes marks →
    block_text P after ≡ block_text P before ++ cond kept (between (n * P) (n * P + P) bytes) (replicate P 0) →
    OnFalse (get_or marks n true) (OnFalse kept (between (n * P) (n * P + P) bytes ≡ replicate P 0)) →
    AddsPages P old after (n + 1) bytes marks
adds_more P n old before after bytes marks kept pos fits so_far is zeros = record {
  added = so_far.added ++ piece;
  text = is ∙ ap (λ xs. xs ++ piece) so_far.text ∙ append_assoc (block_text P old) so_far.added piece;
  size = size_more P n so_far.added (so_far.added ++ piece) (between (n * P) (n * P + P) bytes) kept so_far.size own refl;
  same = same_more P n so_far.added (so_far.added ++ piece) bytes marks kept pos so_far.size fits refl zeros so_far.same;
}
  where
    piece : List ℕ
    piece = cond kept (between (n * P) (n * P + P) bytes) (replicate P 0)

    own : length (between (n * P) (n * P + P) bytes) ≡ P
    own = length-between bytes (n * P) (n * P + P) fits ∙ (let e : n * P + P - n * P ≡ P = omega arith in e)
