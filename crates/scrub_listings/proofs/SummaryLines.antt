-- The lines of numbers, put one after another, and how many named locators have copies.
use Rattle.std.proofs.Common.{◌≡◌, ◌+◌, ◌++◌, ◌==◌, ◌∷◌, [], ℕ, Bool, not, List, OnOk, Result, Ok, Err, get_or, length, append_assoc, refl, sym, ap, ◌∙◌}
use Rattle.std.specs.List.{All, count_by}
use Rattle.std.proofs.lemmas.Grind.{flat_map-append}
use Rattle.std.proofs.lemmas.List.Elements.{All-contains_itself, All-head, All-tail}
use Rattle.std.proofs.lemmas.List.Sums.{sum_by-cons}
use Rattle.scrub_disk.specs.Image.{Image}
use Rattle.scrub_super.specs.Plan.{PlanValue}
use Rattle.scrub_scan.specs.declared.standing.Standing.{Standing}
use Rattle.scrub_scan.specs.Scanned.{Scanned}
use Rattle.scrub_check.specs.declared.statuses.checked.Checked.{Checked}
use Rattle.scrub_check.specs.Spares.{AreSpares}
use Rattle.scrub_loose.specs.Copies.{CopiesValue}
use Rattle.scrub_loose.specs.Loose.{AreCopies}
use Rattle.scrub_listings.specs.Summary.{NamedNumber, has_loose_copy, has_loose_copy_by, has_spare, has_spare_by, number_line, number_lines, one_if}

-- more lines after those that are there
pub more_lines : (old mid new : List ℕ) (before more : List NamedNumber) → mid ≡ old ++ number_lines before →
    new ≡ mid ++ number_lines more → new ≡ old ++ number_lines (before ++ more)
more_lines old mid new before more first later =
    later
    ∙ ap (λ (u : List ℕ). u ++ number_lines more) first
    ∙ append_assoc old (number_lines before) (number_lines more)
    ∙ ap (λ (u : List ℕ). old ++ u) (sym (flat_map-append number_line before more))

-- the same of the last ones
pub last_lines : {E : Type 0} (r : Result (Unit {0}) E) (old mid new : List ℕ) (before more : List NamedNumber) →
    mid ≡ old ++ number_lines before → OnOk r (new ≡ mid ++ number_lines more) → OnOk r (new ≡ old ++ number_lines (before ++ more))
last_lines (Ok u) old mid new before more first later = more_lines old mid new before more first later
last_lines (Err e) old mid new before more first later = tt

-- as many pass a test as another that gives the same
pub count_same : {X : Type 0} (p q : X → Bool) (xs : List X) → All (λ x. p x ≡ q x) xs → count_by p xs ≡ count_by q xs
count_same p q [] same = refl
count_same p q (x ∷ xs) same =
    sum_by-cons (λ y. one_if (p y)) x xs
    ∙ (λ i. one_if (All-head (λ y. p y ≡ q y) x xs same i) + count_same p q xs (All-tail (λ y. p y ≡ q y) x xs same) i)
    ∙ sym (sum_by-cons (λ y. one_if (q y)) x xs)

-- as many named locators have spares among those that were found as among all chunks
pub spared_found : (all : List Scanned) (checked : List Checked) (found : List Standing) → AreSpares all checked found →
    count_by (has_spare_by found) checked ≡ count_by (has_spare all) checked
spared_found all checked found are =
    count_same (has_spare_by found) (has_spare all) checked
    (λ i d below. let c : Checked = get_or checked i d in ap (λ (ss : List Standing). not (length ss == 0)) (are c (All-contains_itself checked i d below)))

-- and as many have loose copies among those that were found as among all loose frames
pub loose_counted : (resets : List ℕ) (image : Image) (plan : PlanValue) (all : List Scanned) (checked : List Checked) (v : CopiesValue)
    (are : AreCopies resets image plan all checked v) →
    count_by (has_loose_copy_by v) checked ≡ count_by (has_loose_copy all are.found.frames) checked
loose_counted resets image plan all checked v are =
    count_same (has_loose_copy_by v) (has_loose_copy all are.found.frames) checked
    (λ i d below. let c : Checked = get_or checked i d in ap (λ (ss : List Standing). not (length ss == 0)) (are.loose c (All-contains_itself checked i d below)))
