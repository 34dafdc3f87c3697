-- The lines of named locators with those of their copies.
use Rattle.std.proofs.Common.{◌≡◌, ◌++◌, ◌∷◌, [], ℕ, List, Some, None, OnOk, Result, get_or, length, refl, sym, subst, append-nil}
use Rattle.std.proofs.Math.Path.{ap₂}
use Rattle.std.specs.List.{All, flat_map, slice_get}
use Rattle.std.proofs.lemmas.Option.{none-some, same_Some}
use Rattle.std.proofs.lemmas.List.Elements.{All-contains_itself, All-head, All-tail}
use Rattle.scrub_disk.specs.Image.{Image}
use Rattle.scrub_super.specs.Plan.{PlanValue}
use Rattle.scrub_scan.specs.declared.standing.Standing.{Standing}
use Rattle.scrub_scan.specs.Scanned.{Scanned}
use Rattle.scrub_check.specs.declared.statuses.checked.Checked.{Checked}
use Rattle.scrub_loose.specs.Copies.{CopiesValue}
use Rattle.scrub_loose.specs.Loose.{AreCopies}
use Rattle.scrub_listings.specs.Locators.{copies_line, copies_lines, count_line, lines_by, lines_of_one, locator_line, locator_lines}

-- the line of the first of some copies
pub counted : {E : Type 0} (r : Result (Unit {0}) E) (word : List ℕ) (some : List Standing) (first : Standing) (count : ℕ) (old new : List ℕ) →
    slice_get some 0 ≡ Some first → count ≡ length some → OnOk r (new ≡ old ++ count_line word first count) →
    OnOk r (new ≡ old ++ copies_line word some)
counted r word [] first count old new is all later = absurd (none-some first is)
counted r word (s ∷ ss) first count old new is all later =
    subst (λ (t : Standing). OnOk r (new ≡ old ++ count_line word t (length (s ∷ ss)))) (sym (same_Some s first is))
    (subst (λ (n : ℕ). OnOk r (new ≡ old ++ count_line word first n)) all later)

-- and nothing without copies
pub uncounted : (word : List ℕ) (some : List Standing) (old : List ℕ) → slice_get some 0 ≡ None → old ≡ old ++ copies_line word some
uncounted word [] old is = sym (append-nil old)
uncounted word (s ∷ ss) old is = absurd (none-some s (sym is))

-- lists that are the same for each element
pub flat_same : {X A : Type 0} (f g : X → List A) (xs : List X) → All (λ x. f x ≡ g x) xs → flat_map f xs ≡ flat_map g xs
flat_same f g [] same = refl
flat_same {X} {A} f g (x ∷ xs) same =
    ap₂ (λ (u v : List A). u ++ v) (All-head (λ y. f y ≡ g y) x xs same) (flat_same f g xs (All-tail (λ y. f y ≡ g y) x xs same))

-- the lines by the copies that were found are those of the definition
pub all_with_copies : (resets : List ℕ) (image : Image) (plan : PlanValue) (all : List Scanned) (checked : List Checked) (v : CopiesValue)
    (are : AreCopies resets image plan all checked v) → flat_map (lines_by v) checked ≡ locator_lines all are.found.frames checked
all_with_copies resets image plan all checked v are =
    flat_same (lines_by v) (lines_of_one all are.found.frames) checked
    (λ i d below.
    let c : Checked = get_or checked i d in
    let there = All-contains_itself checked i d below in
    λ j. locator_line c ++ copies_lines (are.spares c there j) (are.loose c there j))
