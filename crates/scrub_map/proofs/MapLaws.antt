-- A text has one answer: its blocks, or the first line that breaks a rule.
use Rattle.std.proofs.Common.{◌≡◌, ◌<◌, ◌+◌, ◌⊎◌, ℕ, Bool, true, false, List, [], ◌∷◌, ◌++◌, length, get_or, arith, refl, sym, ◌∙◌, subst, inl, inr, append_assoc}
use Rattle.std.proofs.lemmas.List.{get_or_default, same_lists}
use Rattle.scrub_map.specs.declared.block.MapBlock.{MapBlock}
use Rattle.scrub_map.specs.Lines.{map_lines}
use Rattle.scrub_map.specs.Map.{AreBlocksFrom, BeginsMap, BreaksAt, IsFirstBadLine, IsMap, IsMapOf, statements}
use Rattle.scrub_map.specs.Rescued.{AreLostBlocks}
use Rattle.scrub_map.proofs.MapLines.{same_blocks, statements-append}

-- A text is the map of one list of blocks at most.
pub one_map : (text : List ℕ) (a b : List MapBlock) → IsMap text a → IsMap text b → a ≡ b
one_map text = of_said (statements (map_lines text))
  where
    of_said : (said : List (List (List ℕ))) (a b : List MapBlock) → IsMapOf said a → IsMapOf said b → a ≡ b
    of_said [] a b first second = absurd first
    of_said (state ∷ said) a b first second = same_blocks 0 said a b first.1 second.1

-- the first blocks of a map
blocks_front : (from : ℕ) (said more : List (List (List ℕ))) (all : List MapBlock) →
    AreBlocksFrom from (said ++ more) all → (blocks : List MapBlock) × AreBlocksFrom from said blocks
blocks_front from [] more all are = ([], tt)
blocks_front from (s ∷ said) more [] are = absurd are
blocks_front from (s ∷ said) more (x ∷ all) are =
    let rest : (blocks : List MapBlock) × AreBlocksFrom (x.position + x.size) said blocks =
    blocks_front (x.position + x.size) said more all are.2 in
    (x ∷ rest.0, (are.0, are.1, rest.1))

front_said : (said more : List (List (List ℕ))) →
    (said ++ more ≡ []) ⊎ ((blocks : List MapBlock) × IsMapOf (said ++ more) blocks) →
    (said ≡ []) ⊎ ((blocks : List MapBlock) × IsMapOf said blocks)
front_said [] more begins = inl refl
front_said (state ∷ said) more (inl none) = absurd (cons_not_nil state (said ++ more) none)
  where
    cons_not_nil : (x : List (List ℕ)) (xs : List (List (List ℕ))) → x ∷ xs ≡ [] → ⊥
    cons_not_nil x xs same = cc
front_said (state ∷ said) more (inr is) =
    let front : (blocks : List MapBlock) × AreBlocksFrom 0 said blocks = blocks_front 0 said more is.0 is.1.1 in
    inr (front.0, (is.1.0, front.1))

-- the front of what begins a map begins a map too
begins_front : (lines more : List (List ℕ)) → BeginsMap (lines ++ more) → BeginsMap lines
begins_front lines more begins =
    front_said (statements lines) (statements more)
    (rw (statements-append lines more) at begins)

-- if all lines begin a map, none breaks a rule
none_breaks : (lines : List (List ℕ)) (k : ℕ) → BeginsMap lines → ¬ BreaksAt lines k
none_breaks lines k begins at =
    at.breaks (begins_front (at.before ++ at.line ∷ []) at.behind
    (subst BeginsMap (at.parts ∙ sym (append_assoc at.before (at.line ∷ []) at.behind)) begins))

-- A text that is a map has no first bad line.
pub no_bad_line : (text : List ℕ) (blocks : List MapBlock) (k : ℕ) → IsMap text blocks → ¬ IsFirstBadLine text k
no_bad_line text blocks k is (inl at) = none_breaks (map_lines text) k (inr (blocks, is)) at
no_bad_line text blocks k is (inr none) = rw none.0 at is

-- of two fronts of a list, the shorter one begins the longer one
longer_front : (a : List (List ℕ)) (x : List ℕ) (behind b bs : List (List ℕ)) → a ++ (x ∷ behind) ≡ b ++ bs →
    length a < length b → (m : List (List ℕ)) × (b ≡ (a ++ x ∷ []) ++ m)
longer_front a x behind [] bs e less = absurd (omega (arith, less))
longer_front [] x behind (y ∷ b) bs e less = (b, same_first x y behind (b ++ bs) e b)
  where
    same_first : (x y : List ℕ) (xs cs : List (List ℕ)) → x ∷ xs ≡ y ∷ cs → (b : List (List ℕ)) → y ∷ b ≡ x ∷ b
    same_first x y xs cs e b = cc
longer_front (z ∷ a) x behind (y ∷ b) bs e less =
    let rest : (m : List (List ℕ)) × (b ≡ (a ++ x ∷ []) ++ m) =
    longer_front a x behind b bs (same_rest z y (a ++ (x ∷ behind)) (b ++ bs) e) (omega (arith, less)) in
    (rest.0, same_both z y (a ++ (x ∷ behind)) (b ++ bs) e b ((a ++ x ∷ []) ++ rest.0) rest.1)
  where
    same_rest : (z y : List ℕ) (xs bs : List (List ℕ)) → z ∷ xs ≡ y ∷ bs → xs ≡ bs
    same_rest z y xs bs e = cc

    same_both : (z y : List ℕ) (xs bs : List (List ℕ)) → z ∷ xs ≡ y ∷ bs → (c d : List (List ℕ)) → c ≡ d → y ∷ c ≡ z ∷ d
    same_both z y xs bs e c d same = cc

not_before : (lines : List (List ℕ)) (j k : ℕ) (first : BreaksAt lines j) (second : BreaksAt lines k) →
    ¬ (length first.before < length second.before)
not_before lines j k first second less =
    let cut =
    longer_front first.before first.line first.behind second.before (second.line ∷ second.behind)
    (sym first.parts ∙ second.parts) less in
    first.breaks (begins_front (first.before ++ first.line ∷ []) cut.0 (subst BeginsMap cut.1 second.begins))

-- A text has one first bad line at most.
pub one_bad_line : (text : List ℕ) (j k : ℕ) → IsFirstBadLine text j → IsFirstBadLine text k → j ≡ k
one_bad_line text j k (inl first) (inl second) =
    let low : ¬ (length first.before < length second.before) = not_before (map_lines text) j k first second in
    let high : ¬ (length second.before < length first.before) = not_before (map_lines text) k j second first in
    omega (arith, first.place, second.place, low, high)
one_bad_line text j k (inl first) (inr none) = absurd (none_breaks (map_lines text) j (inl none.0) first)
one_bad_line text j k (inr none) (inl second) = absurd (none_breaks (map_lines text) k (inl none.0) second)
one_bad_line text j k (inr none) (inr other) = none.1 ∙ sym other.1

-- blocks decide one list of marks
same_truth : (a b : Bool) → (a ≡ true → b ≡ true) → (b ≡ true → a ≡ true) → a ≡ b
same_truth true b to back = sym (to refl)
same_truth false true to back = back refl
same_truth false false to back = refl

-- For one size and end, blocks allow one list of marks at most.
pub one_marking : (blocks : List MapBlock) (size end : ℕ) (a b : List Bool) → AreLostBlocks blocks size end a →
    AreLostBlocks blocks size end b → a ≡ b
one_marking blocks size end a b first second =
    same_lists a b (first.one_each ∙ sym second.one_each) (λ k d within.
    let also : k < length b = omega (arith, within, first.one_each, second.one_each) in
    get_or_default a k d false within
    ∙ same_truth (get_or a k false) (get_or b k false)
    (λ marked. (second.lost k also).1 ((first.lost k within).0 marked))
    (λ marked. (first.lost k within).1 ((second.lost k also).0 marked))
    ∙ get_or_default b k false d also)
