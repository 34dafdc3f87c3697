-- Parts of lists.
use Rattle.std.proofs.Common.{◌++◌, ◌+◌, ◌<◌, ◌==◌, ◌∙◌, ◌∷◌, ◌≡◌, [], ap, arith, Bool, drop, drop-drop, eqb, false, get_or, length, List, not, refl, suc, sym, take, take-append-drop, true, ℕ}
use Rattle.std.specs.Cmp.Lexicographic.{pointwise}
use Rattle.std.proofs.Math.Seq.{drop-cons}
use Rattle.std.proofs.lemmas.Bool.Decides.{nat_tests, not_from_Decides}
use Rattle.std.proofs.lemmas.List.{drop_at, nil_from_length, take_at}
use Rattle.std.proofs.lemmas.Slice.Eq.{bytes_eq-Decides}
use Rattle.list_facts.proofs.Bools.{false_from_not}

-- the k elements at place m, and all that follow them
pub part-rest : (x : List ℕ) (k m : ℕ) → take k (drop m x) ++ drop (m + k) x ≡ drop m x
part-rest x k m = ap (λ t. take k (drop m x) ++ t) (sym (drop-drop k m x)) ∙ take-append-drop k (drop m x)

-- the k elements at place n, after n elements
pub part_at : (before part behind : List ℕ) (n k : ℕ) → length before ≡ n → length part ≡ k →
    take k (drop n (before ++ (part ++ behind))) ≡ part
part_at before part behind n k hn hk = ap (take k) (drop_at before (part ++ behind) n hn) ∙ take_at part behind k hk

-- two lists that are cut at the same place have the same front and the same rest
pub same_front_and_rest : {X : Type 0} (a b r s : List X) → length a ≡ length b → a ++ r ≡ b ++ s → (a ≡ b) × (r ≡ s)
same_front_and_rest a b r s l e = (
  sym (take_at a r (length a) refl) ∙ ap (take (length a)) e ∙ take_at b s (length a) (sym l),
  sym (drop_at a r (length a) refl) ∙ ap (drop (length a)) e ∙ drop_at b s (length a) (sym l),
)

-- a list that is written over as long a list
pub take_of_refilled : {X : Type 0} (n : ℕ) (xs ys : List X) → n ≡ length xs → take n (xs ++ drop (length xs) ys) ≡ xs
take_of_refilled n xs ys e = take_at xs (drop (length xs) ys) n (sym e)

-- what is left begins with the next element
pub drop_next : {X : Type 0} (xs : List X) (k : ℕ) (d : X) → k < length xs → drop k xs ≡ get_or xs k d ∷ drop (k + 1) xs
drop_next xs k d lt = drop-cons xs k d lt ∙ ap (λ n. get_or xs k d ∷ drop n xs) (let e : suc k ≡ k + 1 = omega arith in e)

-- a list without length has no elements
pub nil_from_no_length : {X : Type 0} (xs : List X) → (length xs == 0) ≡ true → xs ≡ []
nil_from_no_length xs is = let none : length xs ≡ 0 = grind (arith, nat_tests, is) in nil_from_length xs none

-- what `!=` on two lists of bytes says: that they are the same
pub ne_false : (x y : List ℕ) (b : Bool) → b ≡ not (pointwise eqb x y) → b ≡ false → x ≡ y
ne_false x y b e h = (bytes_eq-Decides x y).0 (not_false (pointwise eqb x y) (sym e ∙ h))
  where
    not_false : (b : Bool) → not b ≡ false → b ≡ true
    not_false true e = refl
    not_false false e = sym e

-- and that they differ
pub ne_true : (x y : List ℕ) (b : Bool) → b ≡ not (pointwise eqb x y) → b ≡ true → x ≡ y → ⊥
ne_true x y b e h same = not_from_Decides _ (bytes_eq-Decides x y) (false_from_not (pointwise eqb x y) (sym e ∙ h)) same
