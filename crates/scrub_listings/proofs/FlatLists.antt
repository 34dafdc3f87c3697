-- What is appended for each element of a list.
use Rattle.std.proofs.Common.{◌≡◌, ◌+◌, ◌<◌, ◌≤◌, ℕ, List, ◌++◌, OnOk, Result, Ok, Err, length, get_or, take, append_assoc, sym, ap, ◌∙◌}
use Rattle.std.specs.List.{flat_map}
use Rattle.std.proofs.lemmas.List.{flat_map_more, take_all, take_more}

module _ {X A : Type 0} (f : X → List A) (old mid new : List A) (xs : List X) (i : ℕ) where
  -- the part of one more element
  pub flat_more : (d : X) (part : List A) → i < length xs → part ≡ f (get_or xs i d) →
      mid ≡ old ++ flat_map f (take i xs) → new ≡ mid ++ part →
      new ≡ old ++ flat_map f (take (i + 1) xs)
  flat_more d part below is so_far grown =
      grown
      ∙ ap (λ (u : List A). u ++ part) so_far
      ∙ ap (λ (u : List A). (old ++ flat_map f (take i xs)) ++ u) is
      ∙ flat_map_more f old (take i xs) (get_or xs i d)
      ∙ ap (λ (ys : List X). old ++ flat_map f ys) (sym (take_more xs i d below))

-- all of them
pub flat_all : {X A : Type 0} (f : X → List A) (old mid : List A) (xs : List X) (i : ℕ) → length xs ≤ i →
    mid ≡ old ++ flat_map f (take i xs) → mid ≡ old ++ flat_map f xs
flat_all {X} f old mid xs i end so_far = so_far ∙ ap (λ (ys : List X). old ++ flat_map f ys) (take_all i xs end)

-- two steps of appending are one
pub appended_ok : {A E : Type 0} (r : Result (Unit {0}) E) (old mid new xs ys : List A) → mid ≡ old ++ xs →
    OnOk r (new ≡ mid ++ ys) → OnOk r (new ≡ old ++ (xs ++ ys))
appended_ok (Ok u) old mid new xs ys first later = later ∙ ap (λ us. us ++ ys) first ∙ append_assoc old xs ys
appended_ok (Err e) old mid new xs ys first later = tt
