-- That exactly one value meets a condition, and how such conditions follow from one another.
use Rattle.std.proofs.Common.{◌≡◌, ◌∙◌, ◌∷◌, [], List, refl, sym, ap, subst}
use Rattle.std.specs.List.{AllZip}
use Rattle.list_facts.proofs.Zips.{AllZip-same_seconds}

-- a value meets the condition, and each that meets it is that one
pub record HasOneAnswer {X : Type 0} (P : X → Type 0) : Type 0 where
  pub answer : X
  pub meets : P answer
  pub only : (x : X) → P x → x ≡ answer

-- Two values that meet a condition with one answer are the same.
pub same_answer : {X : Type 0} {P : X → Type 0} → HasOneAnswer P → (x y : X) → P x → P y → x ≡ y
same_answer one x y meets also = one.only x meets ∙ sym (one.only y also)

-- Exactly one value is this one.
pub is_that : {X : Type 0} (x : X) → HasOneAnswer (λ y. y ≡ x)
is_that x = record { answer = x; meets = refl; only = λ y same. same }

-- If a condition has one answer, and for it another condition has one, both have one pair.
pub and_then : {X Y : Type 0} {P : X → Type 0} {Q : X → Y → Type 0} → HasOneAnswer P → ((x : X) → P x → HasOneAnswer (Q x)) →
    HasOneAnswer (λ (r : X × Y). P r.0 × Q r.0 r.1)
and_then {X} {Y} {P} {Q} one then = record {
  answer = (one.answer, next.answer);
  meets = (one.meets, next.meets);
  only = λ r is.
      let first : r.0 ≡ one.answer = one.only r.0 is.0 in
      let second : r.1 ≡ next.answer = next.only r.1 (subst (λ (x : X). Q x r.1) first is.1) in
      λ i. (first i, second i);
}
  where
    next : HasOneAnswer (Q one.answer)
    next = then one.answer one.meets

-- What is made of the one answer is one answer, too.
pub made_of : {X Y : Type 0} {P : X → Type 0} (f : X → Y) → HasOneAnswer P → HasOneAnswer (λ (y : Y). (x : X) × P x × (y ≡ f x))
made_of {X} {Y} {P} f one = record {
  answer = f one.answer;
  meets = (one.answer, one.meets, refl);
  only = λ y is. is.2 ∙ ap f (one.only is.0 is.1);
}

-- A condition on other values that says the same, to and fro, has one answer, too.
pub as_said : {X Y : Type 0} {P : X → Type 0} {Q : Y → Type 0} (to : X → Y) (from : Y → X) → ((x : X) → P x → Q (to x)) →
    ((y : Y) → Q y → P (from y)) → ((y : Y) → Q y → to (from y) ≡ y) → HasOneAnswer P → HasOneAnswer Q
as_said to from there back same one = record {
  answer = to one.answer;
  meets = there one.answer one.meets;
  only = λ y is. sym (same y is) ∙ ap to (one.only (from y) (back y is));
}

some_of_each : {A B : Type 0} {R : A → B → Type 0} → ((a : A) → HasOneAnswer (R a)) → (xs : List A) → (ys : List B) × AllZip R xs ys
some_of_each one [] = ([], tt)
some_of_each one (x ∷ xs) = let rest = some_of_each one xs in ((one x).answer ∷ rest.0, ((one x).meets, rest.1))

-- If for each element a condition has one answer, a list of elements has one list of answers.
pub one_of_each : {A B : Type 0} {R : A → B → Type 0} → ((a : A) → HasOneAnswer (R a)) → (xs : List A) → HasOneAnswer (AllZip R xs)
one_of_each {R = R} one xs =
    let all = some_of_each one xs in
    record {
      answer = all.0;
      meets = all.1;
      only = λ ys each. AllZip-same_seconds R (λ a b c p q. same_answer (one a) b c p q) xs ys all.0 each all.1;
    }
