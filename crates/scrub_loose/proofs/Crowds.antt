-- The lengths that are claimed at the bytes of an extent, and whether they make it crowded. Throughout, x is an extent.
use Rattle.std.proofs.Common.{◌≡◌, ◌≤◌, ◌+◌, ◌*◌, ℕ, zero, suc, List, [], ◌∷◌, ◌++◌, get_or, arith, refl, sym, ◌∙◌, ap, subst, inl, inr}
use Rattle.std.specs.List.{sum}
use Rattle.std.proofs.lemmas.Bool.{cases_lt}
use Rattle.std.proofs.lemmas.List.{get_or_append_left, get_or_default, get_or_push, length_push, same_lists}
use Rattle.list_facts.proofs.Decisions.{Decided}
use Rattle.scrub_scan.specs.Extent.{Extent}
use Rattle.scrub_loose.specs.Anywhere.{AreClaimedLengths, HasCrowd, IsClaimedLength}
use Rattle.scrub_loose.proofs.ReadableClaims.{one_length, some_length}

-- none at no byte
pub no_lengths : (x : Extent) → AreClaimedLengths x 0 []
no_lengths x = record { counted = refl; each = λ p below. absurd (omega (arith, below)) }

-- one more
pub lengths_more : (x : Extent) (n m : ℕ) (ls : List ℕ) → AreClaimedLengths x n ls → IsClaimedLength x n m →
    AreClaimedLengths x (n + 1) (ls ++ m ∷ [])
lengths_more x n m ls are here = record {
  counted = length_push ls m ∙ ap (λ k. k + 1) are.counted;
  each = λ p below. elim (cases_lt p n) [
    | inl before ↦ subst (IsClaimedLength x p) (sym (get_or_append_left ls (m ∷ []) 0 p (omega (arith, before, are.counted)))) (are.each p before)
    | inr from ↦
        let at : n ≡ p = omega (arith, below, from) in
        subst (λ q. IsClaimedLength x q (get_or (ls ++ m ∷ []) q 0)) at
        (subst (IsClaimedLength x n) (sym (get_or_push ls m 0 n are.counted)) here)
  ];
}

-- there is one list of them
pub one_lengths : (x : Extent) (n : ℕ) (ls ms : List ℕ) → AreClaimedLengths x n ls → AreClaimedLengths x n ms → ls ≡ ms
one_lengths x n ls ms a b =
    same_lists ls ms (a.counted ∙ sym b.counted)
    (λ k d below.
    get_or_default ls k d 0 below
    ∙ one_length x k (get_or ls k 0) (get_or ms k 0) (a.each k (omega (arith, below, a.counted))) (b.each k (omega (arith, below, a.counted)))
    ∙ get_or_default ms k 0 d (omega (arith, below, a.counted, b.counted)))

-- and there is one
pub some_lengths : (x : Extent) (n : ℕ) → (ls : List ℕ) × AreClaimedLengths x n ls
some_lengths x zero = ([], no_lengths x)
some_lengths x (suc n) =
    let before = some_lengths x n in
    let here = some_length x n in
    let e : n + 1 ≡ suc n = omega arith in
    (before.0 ++ here.0 ∷ [], subst (λ k. AreClaimedLengths x k (before.0 ++ here.0 ∷ [])) e (lengths_more x n here.0 before.0 before.1 here.1))

-- lengths that are together no more make no crowd
pub no_crowd : (x : Extent) (ls : List ℕ) → AreClaimedLengths x x.pointer ls → sum ls ≤ 4 * x.pointer → ¬ HasCrowd x
no_crowd x ls are few crowd =
    omega (arith, few, crowd.many, ap sum (one_lengths x x.pointer ls crowd.lengths are crowd.are))

-- so it is decided whether an extent is crowded
pub decided_crowd : (x : Extent) → Decided (HasCrowd x)
decided_crowd x =
    let all = some_lengths x x.pointer in elim (cases_lt (4 * x.pointer) (sum all.0)) [
      | inl many ↦ inl (record { lengths = all.0; are = all.1; many = many })
      | inr few ↦ inr (no_crowd x all.0 all.1 few)
    ]
