-- The statuses that aren't known, and how those of each place become known.
use Rattle.std.proofs.Common.{◌≡◌, ◌<◌, ◌+◌, ◌&&◌, ◌==◌, ℕ, Bool, true, zero, suc, List, [], ◌∷◌, ◌++◌, Option, Some, None, IfSome, is_some, All, set, map, length, get_or, arith, refl, sym, subst, ◌∙◌, ap, inl, inr}
use Rattle.std.specs.Borrow.{Bor}
use borrow.Author.Count.{below_more}
use Rattle.std.specs.Iterator.Runs.{Run, AllItems}
use Rattle.std.specs.List.{AllAdjacentBelow, Contains}
use Rattle.std.specs.Option.{option_map}
use Rattle.std.proofs.lemmas.Bool.{and_parts, cases_eq, eqb-true}
use Rattle.std.proofs.lemmas.Grind.{get_or-set_at}
use Rattle.std.proofs.lemmas.List.{length-set, map-append, get_or-set_other}
use Rattle.std.proofs.lemmas.List.Elements.{Contains-append_left, Contains-push}
use Rattle.std.proofs.lemmas.Option.{same_Some}
use Rattle.scrub_check.specs.declared.places.chunk_at.ChunkAt.{ChunkAt}
use Rattle.scrub_check.specs.declared.statuses.by_place.OpenLocator.{OpenLocator}
use Rattle.scrub_check.specs.declared.statuses.status.Status.{Status}
use Rattle.scrub_check.specs.steps.Open.{HaveOnePlace, HasEachUnknown}

-- stands for a locator where a list has none
abbrev pub no_locator : OpenLocator
no_locator = record { place = record { extent = 0; offset = 0 }; index = 0 }

-- what holds of each item of a run of calls holds of the list of them
pub All-run : {S A : Type 0} {steps : S → Option A → S → Type 0} (p : Run steps) (P : A → Type 0) → AllItems p P → All P p.items
All-run {A = A} p P each k d below = here (p.at k) _ (each k) (p.reads k d (omega (arith, below, p.long)))
  where
    here : (o : Option A) (x : A) → IfSome o P → option_map (λ y. y) o ≡ Some x → P x
    here (Some y) x h is = subst P (same_Some y x is) h
    here None x h is = absurd (cc)

-- whether two open locators have one place, as code compares them
abbrev pub is_same : OpenLocator → OpenLocator → Bool
is_same a b = (a.place.extent == b.place.extent) && (a.place.offset == b.place.offset)

same_place : (a b : ChunkAt) → ((a.extent == b.extent) && (a.offset == b.offset)) ≡ true → a ≡ b
same_place a b e =
    let same = and_parts (a.extent == b.extent) (a.offset == b.offset) e in
    λ i. record { extent = eqb-true a.extent b.extent same.0 i; offset = eqb-true a.offset b.offset same.1 i }

-- locators of which each has the place of the next one have one place
pub one_place : (left : Bor (List OpenLocator)) → AllAdjacentBelow (λ a b. is_same a b ≡ true) left.now (length left.now) →
    HaveOnePlace left.now
one_place left alike = λ k d below.
    same_place (get_or left.now k d).place (get_or left.now (k + 1) d).place (alike k d below)

-- what isn't the first of some is among the rest
among_rest : (n i : ℕ) (ns : List ℕ) → (i ≡ n → ⊥) → Contains (n ∷ ns) i → Contains ns i
among_rest n i ns other (zero, below, at) = absurd (other (sym at))
among_rest n i ns other (suc k, below, at) = (k, omega (arith, below), at)

-- once one status is put, those that aren't known are among the others
pub fewer_unknown : (tells : List (Option Status)) (one : OpenLocator) (left : List OpenLocator) (s : Status) →
    HasEachUnknown tells (one ∷ left) → HasEachUnknown (set tells one.index (Some s)) left
fewer_unknown tells one left s each i below none =
    let within : i < length tells = omega (arith, below, length-set tells one.index (Some s)) in
    elim (cases_eq i one.index) [
      | inl same ↦
          let put = get_or-set_at tells one.index i (Some s) None same (omega (arith, same, within)) in
          absurd (cc (put, none))
      | inr other ↦
          among_rest one.index i (map (λ o. o.index) left) other
          (each i within (sym (get_or-set_other tells one.index i (Some s) None other) ∙ none))
    ]

-- the index of each of the first n that isn't known is among these
abbrev pub HasUnknownBelow : List (Option Status) → ℕ → List OpenLocator → Type 0
HasUnknownBelow tells n left = (i : ℕ) → i < n → get_or tells i None ≡ None → Contains (map (λ one. one.index) left) i

-- one more that isn't known
pub unknown_more : (tells : List (Option Status)) (one : OpenLocator) (left more : List OpenLocator) → more ≡ left ++ one ∷ [] →
    HasUnknownBelow tells one.index left → HasUnknownBelow tells (one.index + 1) more
unknown_more tells one left more grown each =
    let index : OpenLocator → ℕ = λ o. o.index in
    let IsAmong : ℕ → Type 0 = λ i. get_or tells i None ≡ None → Contains (map index more) i in
    below_more IsAmong one.index
    (λ i below none. rw (grown, map-append index left (one ∷ [])) (Contains-append_left (map index left) (one.index ∷ []) i (each i below none)))
    (λ none. rw (grown, map-append index left (one ∷ [])) (Contains-push (map index left) one.index))

-- one more that is known
pub unknown_same : (tells : List (Option Status)) (n : ℕ) (left more : List OpenLocator) → is_some (get_or tells n None) ≡ true →
    more ≡ left → HasUnknownBelow tells n left → HasUnknownBelow tells (n + 1) more
unknown_same tells n left more known same each =
    let IsAmong : ℕ → Type 0 = λ i. get_or tells i None ≡ None → Contains (map (λ (o : OpenLocator). o.index) more) i in
    below_more IsAmong n (λ i below none. rw same (each i below none)) (λ none. absurd (cc (known, ap is_some none)))

-- if none is among those that aren't known, each is known
pub is_known : (tells : List (Option Status)) (i : ℕ) → i < length tells → HasEachUnknown tells [] → is_some (get_or tells i None) ≡ true
is_known tells i below each = here (get_or tells i None) refl
  where
    here : (t : Option Status) → get_or tells i None ≡ t → is_some t ≡ true
    here (Some s) is = refl
    here None is = let among = each i below is in absurd (omega (arith, among.1))
