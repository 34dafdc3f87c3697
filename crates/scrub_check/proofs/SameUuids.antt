-- Chunks whose UUID another chunk has too, found among the sorted numbers that their UUIDs spell.
use Rattle.std.proofs.Common.{[], All, ap, arith, Bool, cond, false, get_or, is_eq, List, nat_lt, refl, sym, ℕ, ◌+◌, ◌∙◌, ◌∷◌, ◌≡◌}
use Rattle.std.specs.List.{count_by, filter}
use Rattle.std.specs.List.Sorted.{IsStrictlySortedBy}
use Rattle.std.specs.Ordering.{nat_cmp}
use Rattle.std.specs.Prelude.{◌==◌}
use Rattle.std.specs.Str.{bytes_eq}
use Rattle.std.proofs.lemmas.Cmp.{nat_cmp_total}
use Rattle.std.proofs.lemmas.List.Elements.{All-head, All-tail}
use Rattle.std.proofs.lemmas.List.Sorted.{sum_by-IsPermutation}
use Rattle.std.proofs.lemmas.List.Sums.{sum_by-cons}
use Rattle.list_facts.proofs.Counts.{count_map}
use Rattle.list_facts.proofs.Orders.{is_eq-nat_cmp}
use Rattle.list_facts.proofs.Sorted.{once_at_most}
use Rattle.scrub_scan.specs.Scanned.{Scanned}
use Rattle.scrub_check.specs.Chunks.{chunks, twins}
use Rattle.scrub_check.specs.declared.lists.place.Place.{Place}
use Rattle.scrub_check.specs.steps.ChunkUuids.{AreSixteen, AreUuidsOf, is_twin_by, number_of, numbers_of}
use Rattle.scrub_check.proofs.Rising.{not_several}
use Rattle.scrub_check.proofs.UuidNumbers.{same_test}

-- ---- tests that agree on the elements of a list

count_same : {X : Type 0} (p q : X → Bool) (xs : List X) → All (λ x. p x ≡ q x) xs → count_by p xs ≡ count_by q xs
count_same p q [] same = refl
count_same p q (x ∷ xs) same =
    sum_by-cons (λ y. cond (p y) 1 0) x xs
    ∙ (λ i. cond (All-head (λ y. p y ≡ q y) x xs same i) 1 0 + count_same p q xs (All-tail (λ y. p y ≡ q y) x xs same) i)
    ∙ sym (sum_by-cons (λ y. cond (q y) 1 0) x xs)

filter_same : {X : Type 0} (p q : X → Bool) (xs : List X) → All (λ x. p x ≡ q x) xs → filter p xs ≡ filter q xs
filter_same p q [] same = refl
filter_same p q (x ∷ xs) same =
    let rest = filter_same p q xs (All-tail (λ y. p y ≡ q y) x xs same) in
    λ i. cond (All-head (λ y. p y ≡ q y) x xs same i) (x ∷ rest i) (rest i)

-- ---- twins

-- how many chunks have a UUID is how often its number is there
count_uuids : (all : List Scanned) (numbers uuid : List ℕ) → AreUuidsOf (chunks all) numbers → AreSixteen uuid →
    count_by (λ n. n == number_of uuid) numbers ≡ count_by (λ p. bytes_eq p.uuid uuid) (chunks all)
count_uuids all numbers uuid are own =
    sum_by-IsPermutation (λ n. cond (n == number_of uuid) 1 0) (numbers_of (chunks all)) numbers are.shuffled
    ∙ count_map (λ n. n == number_of uuid) (λ p. number_of p.uuid) (chunks all)
    ∙ count_same (λ p. number_of p.uuid == number_of uuid) (λ p. bytes_eq p.uuid uuid) (chunks all)
    (λ k d within. same_test (get_or (chunks all) k d).uuid uuid (are.each k d within) own)

-- chunks the number of whose UUID occurs several times are the twins
pub twins_found : (all : List Scanned) (numbers : List ℕ) → AreUuidsOf (chunks all) numbers →
    filter (is_twin_by numbers) (chunks all) ≡ twins all
twins_found all numbers are =
    filter_same (is_twin_by numbers) (λ p. nat_lt 1 (count_by (λ other. bytes_eq other.uuid p.uuid) (chunks all))) (chunks all)
    (λ k d within. ap (nat_lt 1) (count_uuids all numbers (get_or (chunks all) k d).uuid are (are.each k d within)))

-- if the numbers ascend, no chunk has a twin
not_twin : (numbers : List ℕ) (one : Place) → IsStrictlySortedBy nat_cmp numbers → is_twin_by numbers one ≡ false
not_twin numbers one rising =
    let same : count_by (λ n. is_eq (nat_cmp n (number_of one.uuid))) numbers ≡ count_by (λ n. n == number_of one.uuid) numbers =
    ap (λ test. count_by test numbers) (λ i n. is_eq-nat_cmp n (number_of one.uuid) i) in
    let few = once_at_most nat_cmp_total numbers (number_of one.uuid) rising in
    not_several (count_by (λ n. n == number_of one.uuid) numbers) (omega (arith, same, few))

none_left : (p : Place → Bool) (ps : List Place) → ((one : Place) → p one ≡ false) → filter p ps ≡ []
none_left p [] fails = refl
none_left p (x ∷ ps) fails = ap (λ b. cond b (x ∷ filter p ps) (filter p ps)) (fails x) ∙ none_left p ps fails

-- and there are none
pub no_twins : (all : List Scanned) (numbers : List ℕ) → AreUuidsOf (chunks all) numbers →
    IsStrictlySortedBy nat_cmp numbers → [] ≡ twins all
no_twins all numbers are rising =
    sym (none_left (is_twin_by numbers) (chunks all) (λ one. not_twin numbers one rising)) ∙ twins_found all numbers are
