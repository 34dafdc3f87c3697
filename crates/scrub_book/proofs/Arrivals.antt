-- Results that are added to a book one by one.
use Rattle.std.proofs.Common.{true, ◌==◌, ◌≡◌, ◌≤◌, ◌+◌, ◌++◌, ◌∷◌, ℕ, List, [], All, get_or, map, sum_by, arith, refl, append_assoc}
use Rattle.std.specs.List.{Contains}
use Rattle.std.specs.List.Sorted.{IsPermutation, IsStrictlyIncreasing}
use Rattle.std.proofs.lemmas.Bool.Decides.{nat_tests}
use Rattle.std.proofs.lemmas.List.{get_or_default}
use Rattle.std.proofs.lemmas.List.Sorted.{IsPermutation-trans, IsPermutation-append_left, IsPermutation-to_front, sum_by-IsPermutation}
use Rattle.std.proofs.lemmas.List.Sums.{sum_by-append, sum_by-cons}
use Rattle.std.proofs.lemmas.Simd.{map-map}
use Rattle.list_facts.proofs.Counts.{contained_counts, counted_contained, one_for, one_for-same, rising_once}
use Rattle.scrub_scan.specs.declared.extent_result.ExtentResult.{ExtentResult}
use Rattle.scrub_scan.specs.Scanned.{Scanned, scanned}
use Rattle.scrub_scan.specs.AllFindings.{extent_numbers}
use Rattle.scrub_book.specs.declared.book.AddRefused.{AddRefused}
use Rattle.scrub_book.specs.declared.book.AddRefused.TheVariants.{Stranger, Double}
use Rattle.scrub_book.specs.Extents.{extents_in}
use Rattle.scrub_book.specs.Book.{BookValue, IsAddRefused}

-- the numbers of results are the extents that they are of
pub numbers_shown : {D : Type 0} {s : _} (rs : List (ExtentResult D s)) →
    extent_numbers (map (λ (r : ExtentResult D s). scanned r) rs) ≡ extents_in rs
numbers_shown {D} {s} rs = map-map (λ x. x.extent) (λ (r : ExtentResult D s). scanned r) rs

-- a sum over numbers is a sum over what has them
of_numbers : (f : ℕ → ℕ) (all : List Scanned) → sum_by f (extent_numbers all) ≡ sum_by (λ x. f x.extent) all
of_numbers f [] = refl
of_numbers f (one ∷ all) =
    omega (
      arith,
      sum_by-cons f one.extent (extent_numbers all),
      sum_by-cons (λ (x : Scanned). f x.extent) one all,
      of_numbers f all,
    )

-- one more result was added
pub one_more_came : (all came rest next : List Scanned) (one : Scanned) → IsPermutation all (came ++ one ∷ rest) →
    IsPermutation (one ∷ came) next → IsPermutation all (next ++ rest)
one_more_came all came rest next one so_far more =
    let front : IsPermutation ((came ++ one ∷ []) ++ rest) (next ++ rest) =
    IsPermutation-append_left rest (came ++ one ∷ []) next
    (IsPermutation-trans (came ++ one ∷ []) (one ∷ came) next (IsPermutation-to_front came one) more) in
    IsPermutation-trans all (came ++ one ∷ rest) (next ++ rest) so_far (rw (append_assoc came (one ∷ []) rest) at front)

module _ (planned : List ℕ) (all : List Scanned)
    (each : (f : ℕ → ℕ) → sum_by f (extent_numbers all) ≡ sum_by f planned) where
  -- an extent is planned as often as it was added and is still to come
  parts : (came rest : List Scanned) (one : Scanned) → IsPermutation all (came ++ one ∷ rest) → (e : ℕ) →
      sum_by (one_for e) (extent_numbers came) + (one_for e one.extent + sum_by (λ (x : Scanned). one_for e x.extent) rest) ≡ sum_by (one_for e) planned
  parts came rest one so_far e =
      let f : Scanned → ℕ = λ x. one_for e x.extent in
      omega (
        arith,
        sum_by-IsPermutation f all (came ++ one ∷ rest) so_far,
        sum_by-append f came (one ∷ rest),
        sum_by-cons f one rest,
        of_numbers (one_for e) all,
        of_numbers (one_for e) came,
        each (one_for e),
      )

  own : (one : Scanned) → 1 ≤ one_for one.extent one.extent
  own one =
      let same : (one.extent == one.extent) ≡ true = grind (arith, nat_tests) in
      omega (arith, one_for-same one.extent one.extent same)

  -- the next result is of a planned extent
  pub next_planned : (came rest : List Scanned) (one : Scanned) → IsPermutation all (came ++ one ∷ rest) →
      Contains planned one.extent
  next_planned came rest one so_far =
      counted_contained planned one.extent (omega (arith, parts came rest one so_far one.extent, own one))

  -- and of one that wasn't added before
  pub next_first : (came rest : List Scanned) (one : Scanned) → IsStrictlyIncreasing planned →
      IsPermutation all (came ++ one ∷ rest) → Contains (extent_numbers came) one.extent → ⊥
  next_first came rest one rising so_far there =
      omega (
        arith,
        parts came rest one so_far one.extent,
        own one,
        rising_once planned one.extent rising,
        contained_counts (extent_numbers came) one.extent there,
      )

  -- at the end each planned extent was added
  pub all_came : (came : List Scanned) → IsPermutation all came → All (Contains (extent_numbers came)) planned
  all_came came is k d below =
      let e = get_or planned k d in
      let there = contained_counts planned e (k, below, get_or_default planned k e d below) in
      counted_contained (extent_numbers came) e
      (omega (arith, there, each (one_for e), of_numbers (one_for e) all, of_numbers (one_for e) came, sum_by-IsPermutation (λ (x : Scanned). one_for e x.extent) all came is))

-- a result of a planned extent that wasn't added isn't refused
pub not_refused : {D : Type 0} {s : _} (book : BookValue D) (r : ExtentResult D s) (why : AddRefused D s) →
    Contains book.plan.planned r.extent → (Contains (extent_numbers book.came) r.extent → ⊥) → IsAddRefused book r why →
    ⊥
not_refused book r (Stranger back) planned first refused = refused.1 planned
not_refused book r (Double back) planned first refused = first refused.2
