-- Texts of lists, piece by piece.
use Rattle.std.proofs.Common.{◌≡◌, ◌<◌, ◌≤◌, ◌+◌, ◌*◌, ℕ, zero, suc, List, [], ◌∷◌, ◌++◌, Bool, true, false, Result, Ok, Err, fold, length, take, drop, map, nat_lt, arith, refl, sym, ap, ap₂, ◌∙◌, append_assoc, append-nil}
use Rattle.std.specs.Prelude.{IfOk, IfSome, Vec, slice_get}
use Rattle.std.specs.Int.{div_ceil}
use Rattle.std.proofs.Math.Nat.{mul-le-mul_right}
use Rattle.std.proofs.Math.Seq.{take-add}
use Rattle.std.proofs.lemmas.Grind.{div_ceil_times}
use Rattle.std.proofs.lemmas.List.{drop-map, length-drop, length-take, take-map}
use Rattle.std.proofs.lemmas.List.Concat.{flat_map-append}
use Rattle.std.proofs.lemmas.List.Folds.{flat_map-map}
use Rattle.std.proofs.lemmas.List.Sums.{fold-append}
use Rattle.std.proofs.lemmas.Bool.Decides.{nat_tests}
use Rattle.json.specs.Token.{Token}
use Rattle.json.specs.Print.{ends, print, print_from}
use Rattle.json.specs.Tree.{items_tokens, members_tokens}
use Rattle.json.proofs.Printed.Tokens.{print_from-append}
use Rattle.serde_json.specs.Data.{Data, null, boolean, number, string, array, object, Items, no_items, item, Members, no_members, member}
use Rattle.serde_json.specs.Written.{comma_if, items_outline, members_outline}
use Rattle.scrub_report.specs.steps.Tokens.{ArePieces, piece_text, shown_tokens, value_tokens, values_tokens}

-- whether the last token ends a value
abbrev pub left : Bool → List Token → Bool
left c ts = fold (λ _ t. ends t) c ts

-- ---- one value

-- after another value it has a comma
opened : (d : Data) (ts : List Token) →
    print_from true (value_tokens d ++ ts) ≡ 44 ∷ print_from false (value_tokens d ++ ts)
unfolding print_from
opened null ts = refl
opened (boolean b) ts = refl
opened (number n) ts = refl
opened (string s) ts = refl
opened (array ds) ts = refl
opened (object ms) ts = refl

items_closed : (c : Bool) (ds : Items) → left c (items_tokens (items_outline ds)) ≡ true
items_closed c no_items = refl
items_closed c (item d ds) =
    fold-append (λ _ t. ends t) c (value_tokens d) (items_tokens (items_outline ds)) ∙ items_closed (left c (value_tokens d)) ds

members_closed : (c : Bool) (ms : Members) → left c (members_tokens (members_outline ms)) ≡ true
members_closed c no_members = refl
members_closed c (member k d ms) =
    fold-append (λ _ t. ends t) false (value_tokens d) (members_tokens (members_outline ms))
    ∙ members_closed (left false (value_tokens d)) ms

closed : (c : Bool) (d : Data) → left c (value_tokens d) ≡ true
closed c null = refl
closed c (boolean b) = refl
closed c (number n) = refl
closed c (string s) = refl
closed c (array ds) = items_closed false ds
closed c (object ms) = members_closed false ms

-- ---- some values

all_closed : (ds : List Data) → left true (values_tokens ds) ≡ true
all_closed [] = refl
all_closed (d ∷ ds) =
    fold-append (λ _ t. ends t) true (value_tokens d) (values_tokens ds)
    ∙ ap (λ c. left c (values_tokens ds)) (closed true d) ∙ all_closed ds

some_closed : (c : Bool) (ds : List Data) → 0 < length ds → left c (values_tokens ds) ≡ true
some_closed c [] h = absurd (omega (arith, h))
some_closed c (d ∷ ds) h =
    fold-append (λ _ t. ends t) c (value_tokens d) (values_tokens ds)
    ∙ ap (λ b. left b (values_tokens ds)) (closed c d) ∙ all_closed ds

some_opened : (ds : List Data) → 0 < length ds →
    print_from true (values_tokens ds) ≡ 44 ∷ print (values_tokens ds)
some_opened [] h = absurd (omega (arith, h))
some_opened (d ∷ ds) h = opened d (values_tokens ds)

-- ---- piece by piece

-- one more piece
pub next_piece : (ds : List Data) (from size : ℕ) → from < length ds → 0 < size →
    print (values_tokens (take from ds)) ++ piece_text ds from size ≡ print (values_tokens (take (from + size) ds))
next_piece ds from size below some =
    let first = take from ds in
    let piece = take size (drop from ds) in
    sym (ap (λ es. print (values_tokens es)) (take-add from size ds)
    ∙ ap print (flat_map-append value_tokens first piece)
    ∙ print_from-append false (values_tokens first) (values_tokens piece)
    ∙ ap (λ t. print (values_tokens first) ++ t) (behind from below))
  where
    later : (n : ℕ) → nat_lt 0 (suc n) ≡ true
    later n = grind (arith, nat_tests)

    behind : (n : ℕ) → n < length ds →
        print_from (left false (values_tokens (take n ds))) (values_tokens (take size (drop n ds))) ≡ piece_text ds n size
    behind zero below = refl
    behind (suc n) below =
        let es = take size (drop (suc n) ds) in
        ap (λ c. print_from c (values_tokens es))
        (some_closed false (take (suc n) ds) (omega (arith, below, length-take (suc n) ds)))
        ∙ some_opened es (omega (arith, below, some, length-take size (drop (suc n) ds), length-drop (suc n) ds))
        ∙ ap (λ b. comma_if b ++ print (values_tokens es)) (sym (later n))

-- before the first piece
pub no_piece : (t : List ℕ) (ds : List Data) (size : ℕ) → t ≡ t ++ print (values_tokens (take (0 * size) ds))
unfolding print_from
no_piece t ds size =
    let nothing : 0 * size ≡ 0 = grind arith in
    sym (ap (λ k. t ++ print (values_tokens (take k ds))) nothing ∙ append-nil t)

-- The `c` pieces together reach the end of the list.
pub pieces_end : (n c size len : ℕ) → 0 < size → c ≡ div_ceil len size → c ≤ n → len ≤ n * size
pieces_end n c size len some is all =
    let bound = (div_ceil_times len size some).0 in
    let steps : div_ceil len size * size ≤ n * size = mul-le-mul_right size (omega (arith, is, all)) in
    omega (arith, bound, steps)

-- Each of the `c` pieces begins before the end of the list.
pub piece_begins : (n c size len : ℕ) → 0 < size → c ≡ div_ceil len size → n < c → n * size < len
piece_begins n c size len some is below =
    let bound = (div_ceil_times len size some).1 in
    let steps : (n + 1) * size ≤ div_ceil len size * size = mul-le-mul_right size (omega (arith, is, below)) in
    let more : (n + 1) * size ≡ n * size + size = grind arith in
    omega (arith, bound, steps, more)

-- the text with the piece of this number
pub with_piece : (ds : List Data) (n m size : ℕ) (t0 t1 piece : List ℕ) → n * size < length ds → 0 < size →
    m ≡ n + 1 →
    t1 ≡ t0 ++ print (values_tokens (take (n * size) ds)) → piece ≡ piece_text ds (n * size) size →
    t1 ++ piece ≡ t0 ++ print (values_tokens (take (m * size) ds))
with_piece ds n m size t0 t1 piece below some more so_far is =
    let added : (n + 1) * size ≡ n * size + size = grind arith in
    let times : n * size + size ≡ m * size = sym (ap (λ k. k * size) more ∙ added) in
    ap₂ (λ t p. t ++ p) so_far is
    ∙ append_assoc t0 (print (values_tokens (take (n * size) ds))) (piece_text ds (n * size) size)
    ∙ ap (λ t. t0 ++ t) (next_piece ds (n * size) size below some ∙ ap (λ k. print (values_tokens (take k ds))) times)

-- A part of what is shown has the tokens of that part of the values.
pub part_shown : {X : Type 0} (show : X → Data) (xs : List X) (from size : ℕ) →
    shown_tokens show (take size (drop from xs)) ≡ values_tokens (take size (drop from (map show xs)))
part_shown show xs from size =
    sym (flat_map-map value_tokens show (take size (drop from xs)))
    ∙ ap values_tokens (sym (take-map show size (drop from xs)) ∙ ap (λ ds. take size ds) (sym (drop-map show from xs)))

-- as many pieces as there are, each right
pub pieces_made : {Z : Type 0} {E : Type 0} {F : Type 0} (ds : List Data) {count : ℕ} (size : ℕ) → length ds ≡ count →
    {Y : Type 0} (r : Result (Vec (Result (Vec ℕ Z) E) Y) F) → IfOk r (λ v. length v.items ≡ div_ceil count size) →
    IfOk r (λ v. (n : ℕ) → IfSome (slice_get v.items n) (λ text. IfOk text (λ bytes. bytes.items ≡ piece_text ds (n * size) size))) →
    IfOk r (λ v. ArePieces ds size v.items)
pieces_made ds size long (Ok v) many each = record { count = many ∙ ap (λ n. div_ceil n size) (sym long); each = each }
pieces_made ds size long (Err e) many each = tt
