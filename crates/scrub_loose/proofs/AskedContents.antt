-- Contents that are asked for, searched in their order. Throughout, a is what is asked for.
use Rattle.std.proofs.Common.{◌≡◌, ◌≤◌, ◌==◌, ℕ, Bool, true, false, cond, List, length, get_or, nat_lt, nat_cmp, Ordering, is_eq, is_ok, Result, Ok, Err, arith, refl, sym, ◌∙◌, ap, inl, inr}
use Rattle.std.specs.Cmp.{IsTotalOrder}
use Rattle.std.specs.Cmp.Lexicographic.{slice_cmp}
use Rattle.std.specs.List.{Contains, count_by, list_any}
use Rattle.std.specs.List.Sorted.{IsBinarySearchResult, IsSearchInRange, IsSorted}
use Rattle.std.proofs.lemmas.Bool.{and_parts, cases_lt, eq-eqb, eqb-true, false≢true, ltb-true}
use Rattle.std.proofs.lemmas.List.{get_or_default}
use Rattle.std.proofs.lemmas.List.Elements.{All-contains, Contains-get_or}
use Rattle.list_facts.proofs.Counts.{any_at, any_counts, count_none, sum_by-some_term}
use Rattle.list_facts.proofs.Orders.{is_eq-nat_cmp, is_eq-ordering_then}
use Rattle.list_facts.proofs.Sorted.{rises_against}
use Rattle.scrub_scan.specs.declared.standing.Standing.{Standing}
use Rattle.scrub_check.specs.declared.lists.spares.Content.{Content}
use Rattle.scrub_check.specs.Spares.{content_cmp, content_of, is_wanted}
use Rattle.scrub_loose.specs.declared.asked.Asked.{Asked}
use Rattle.scrub_loose.specs.steps.Asked.{IsAsked}

-- what a search in an order finds is there, and what is there is found
pub found_in_order : {X : Type 0} {R : X → X → Ordering} (o : IsTotalOrder R) (xs : List X) (x : X) (p : X → Bool) (r : Result ℕ ℕ) →
    ((y : X) → is_eq (R y x) ≡ p y) → IsSorted R xs → IsSearchInRange r (length xs) → IsBinarySearchResult (λ y. R y x) xs r →
    is_ok r ≡ list_any p xs
found_in_order o xs x p (Ok i) same sorted low equal =
    sym (any_at p xs i low (λ d. sym (same (get_or xs i d)) ∙ ap is_eq (equal d)))
found_in_order {X} {R} o xs x p (Err i) same sorted low parted =
    let at = parted (rises_against o xs x sorted) in
    sym
    (any_counts p xs
    ∙ ap (nat_lt 0)
    (count_none p xs
    (λ k d below. elim (cases_lt k i) [
      | inl low ↦ sym (same (get_or xs k d)) ∙ ap is_eq (at.0 k d (omega arith) low)
      | inr high ↦ sym (same (get_or xs k d)) ∙ ap is_eq (at.1 k d high below)
    ])))

-- an element that passes, if one does
pub some_passes : {X : Type 0} (p : X → Bool) (xs : List X) (d : X) → list_any p xs ≡ true → (y : X) × Contains xs y × (p y ≡ true)
some_passes p xs d is =
    let some = sum_by-some_term (λ y. cond (p y) 1 0) xs d (ltb-true 0 (count_by p xs) (sym (any_counts p xs) ∙ is)) in
    (get_or xs some.0 d, Contains-get_or xs some.0 d some.1, by (p (get_or xs some.0 d)) some.2)
  where
    by : (b : Bool) → 1 ≤ cond b 1 0 → b ≡ true
    by true le = refl
    by false le = absurd (omega (arith, le))

-- a frame with a content has its length
same_length : (c : Content) (s : Standing) → is_eq (content_cmp c (content_of s)) ≡ true → c.length ≡ s.length
same_length c s is =
    let parts = and_parts (is_eq (slice_cmp nat_cmp c.digest s.digest)) (is_eq (nat_cmp c.length s.length))
    (sym (is_eq-ordering_then (slice_cmp nat_cmp c.digest s.digest) (nat_cmp c.length s.length)) ∙ is) in
    eqb-true c.length s.length (sym (is_eq-nat_cmp c.length s.length) ∙ parts.1)

-- a frame of another length isn't asked for
pub length_not_asked : (a : Asked) (s : Standing) (n : ℕ) → IsAsked a → s.length ≡ n → list_any (λ m. m == n) a.lengths.items ≡ false →
    is_wanted a.contents.items s ≡ false
length_not_asked a s n h same none = by (is_wanted a.contents.items s) refl
  where
    by : (b : Bool) → is_wanted a.contents.items s ≡ b → b ≡ false
    by false is = refl
    by true is =
        let c = some_passes (λ other. is_eq (content_cmp other (content_of s))) a.contents.items (content_of s)
        (any_counts (λ other. is_eq (content_cmp other (content_of s))) a.contents.items ∙ is) in
        let among : Contains a.lengths.items c.0.length = All-contains (λ d. Contains a.lengths.items d.length) a.contents.items c.0 h.has c.1 in
        absurd
        (false≢true
        (sym none
        ∙ any_at (λ m. m == n) a.lengths.items among.0 among.1
        (λ d.
        eq-eqb (get_or a.lengths.items among.0 d) n
        (get_or_default a.lengths.items among.0 d c.0.length among.1 ∙ among.2 ∙ same_length c.0 s c.2 ∙ same))))
