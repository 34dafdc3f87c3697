-- Values that may be missing, and results.
use Rattle.std.proofs.Common.{◌≡◌, false, IfNone, IfSome, is_none, MatchOption, None, Option, refl, Some, true}
use Rattle.std.specs.Option.{is_some}
use Rattle.std.specs.Prelude.{Err, Ok, OnOk, Result}
use Rattle.std.proofs.lemmas.Bool.{true≢false}

-- what a clause says of the value that there is
pub IfSome-at : {A : Type 0} (P : A → Type 0) (o : Option A) (x : A) → o ≡ Some x → IfSome o P → P x
IfSome-at P o x is h = rw is at h

-- and of there being none
pub IfNone-at : {A : Type 0} (P : Type 0) (o : Option A) → o ≡ None → IfNone o P → P
IfNone-at P o is h = rw is at h

-- an option that has nothing is None
pub None_from_not_some : {X : Type 0} (o : Option X) → is_some o ≡ false → o ≡ None
None_from_not_some None is = refl
None_from_not_some (Some x) is = absurd (true≢false is)

-- the same by the other test
pub None_from_is_none : {A : Type 0} (o : Option A) → is_none o ≡ true → o ≡ None
None_from_is_none None e = refl
None_from_is_none (Some x) e = absurd (cc)

-- what is known of an option in two ways
pub MatchOption-both : {X : Type 0} (A P R : Type 0) (B Q S : X → Type 0) (o : Option X) → (A → P → R) → ((v : X) → B v → Q v → S v) → MatchOption o A B → MatchOption o P Q → MatchOption o R S
MatchOption-both A P R B Q S (Some v) none some a p = some v a p
MatchOption-both A P R B Q S None none some a p = none a p

-- what is known of the value that there is
pub IfSome-from_match : {X : Type 0} (A : Type 0) (B : X → Type 0) (o : Option X) → MatchOption o A B → IfSome o B
IfSome-from_match A B (Some v) h = h
IfSome-from_match A B None h = tt

-- and of there being none
pub IfNone-from_match : {X : Type 0} (A : Type 0) (B : X → Type 0) (o : Option X) → MatchOption o A B → IfNone o A
IfNone-from_match A B (Some v) h = tt
IfNone-from_match A B None h = h

-- what two facts about a value give, if there is one
pub OnOk-both : {T E P Q R : Type 0} (r : Result T E) → OnOk r P → OnOk r Q → (P → Q → R) → OnOk r R
OnOk-both (Ok x) p q gives = gives p q
OnOk-both (Err e) p q gives = tt
