-- The tokens of lists and of objects, written element by element.
use Rattle.std.proofs.Common.{◌≡◌, ◌≤◌, ℕ, List, [], ◌∷◌, ◌++◌, OnOk, Result, Ok, Err, length, map, take, refl, sym, ap, ◌∙◌, append_assoc}
use Rattle.std.specs.List.{flat_map}
use Rattle.std.proofs.lemmas.List.{take_all}
use Rattle.std.proofs.lemmas.List.Concat.{flat_map-append}
use Rattle.std.proofs.lemmas.List.Folds.{flat_map-map}
use Rattle.json.specs.Token.{Token, begin_array, end_array, begin_object, end_object, key}
use Rattle.json.specs.Tree.{items_tokens, members_tokens as closed_members}
use Rattle.serde_json.specs.Data.{Data}
use Rattle.serde_json.specs.View.{items_of}
use Rattle.serde_json.specs.Written.{items_outline, members_outline}
use Rattle.scrub_report.specs.Json.{list, object_members, with_keys}
use Rattle.scrub_report.specs.steps.Tokens.{member_tokens, members_tokens, shown_tokens, value_tokens, values_tokens}

-- two steps of writing are one
pub chain : {X : Type 0} (a b c xs ys : List X) → b ≡ a ++ xs → c ≡ b ++ ys → c ≡ a ++ (xs ++ ys)
chain a b c xs ys first later = later ∙ ap (λ zs. zs ++ ys) first ∙ append_assoc a xs ys

-- ---- lists

items_are : (ds : List Data) → items_tokens (items_outline (items_of ds)) ≡ values_tokens ds ++ end_array ∷ []
items_are [] = refl
items_are (d ∷ ds) =
    ap (λ ts. value_tokens d ++ ts) (items_are ds)
    ∙ sym (append_assoc (value_tokens d) (values_tokens ds) (end_array ∷ []))

-- The tokens of a list are those of its values, between brackets.
pub list_tokens : (ds : List Data) → value_tokens (list ds) ≡ begin_array ∷ (values_tokens ds ++ end_array ∷ [])
list_tokens ds = ap (λ ts. begin_array ∷ ts) (items_are ds)

module _ {X : Type 0} (show : X → Data) (xs : List X) where
  shown_list : value_tokens (list (map show xs)) ≡ begin_array ∷ (shown_tokens show xs ++ end_array ∷ [])
  shown_list =
      list_tokens (map show xs) ∙ ap (λ ts. begin_array ∷ (ts ++ end_array ∷ [])) (flat_map-map value_tokens show xs)

  -- a list is begun, its elements are written, and it is closed
  list_written : (a b c d : List Token) → b ≡ a ++ begin_array ∷ [] → c ≡ b ++ shown_tokens show xs → d ≡ c ++ end_array ∷ [] →
      d ≡ a ++ value_tokens (list (map show xs))
  list_written a b c d begun all closed =
      chain a b d (begin_array ∷ []) (shown_tokens show xs ++ end_array ∷ []) begun
      (chain b c d (shown_tokens show xs) (end_array ∷ []) all closed)
      ∙ ap (λ ts. a ++ ts) (sym shown_list)

  -- Once all elements are written, a closing bracket that is written completes the list's tokens.
  pub list_closed : {E : Type 0} (a b c d : List Token) (r : Result (Unit {0}) E) → b ≡ a ++ begin_array ∷ [] →
      c ≡ b ++ shown_tokens show xs → OnOk r (d ≡ c ++ end_array ∷ []) →
      OnOk r (d ≡ a ++ value_tokens (list (map show xs)))
  list_closed a b c d (Ok u) begun all closed = list_written a b c d begun all closed
  list_closed a b c d (Err e) begun all closed = tt

-- ---- objects

members_are : (ms : List (List ℕ × Data)) →
    closed_members (members_outline (object_members ms)) ≡ members_tokens ms ++ end_object ∷ []
members_are [] = refl
members_are (m ∷ ms) =
    ap (λ ts. member_tokens m.0 m.1 ++ ts) (members_are ms)
    ∙ sym (append_assoc (member_tokens m.0 m.1) (members_tokens ms) (end_object ∷ []))

-- The tokens of an object are those of its members, between braces.
pub object_tokens : (ms : List (List ℕ × Data)) →
    value_tokens (with_keys ms) ≡ begin_object ∷ (members_tokens ms ++ end_object ∷ [])
object_tokens ms = ap (λ ts. begin_object ∷ ts) (members_are ms)

members_joined : (ms ns : List (List ℕ × Data)) (ts : List Token) →
    members_tokens (ms ++ ns) ++ ts ≡ members_tokens ms ++ (members_tokens ns ++ ts)
members_joined ms ns ts =
    ap (λ us. us ++ ts) (flat_map-append (λ (m : List ℕ × Data). member_tokens m.0 m.1) ms ns)
    ∙ append_assoc (members_tokens ms) (members_tokens ns) ts

-- what one member is written as
abbrev shown_member : {X : Type 0} → (X → List ℕ × Data) → X → List Token
shown_member show x = member_tokens (show x).0 (show x).1

module _ {X : Type 0} (show : X → List ℕ × Data) (xs : List X) (old mid : List Token) (i : ℕ) where
  -- all are written
  pub all_members : length xs ≤ i → mid ≡ old ++ flat_map (shown_member show) (take i xs) →
      mid ≡ old ++ members_tokens (map show xs)
  all_members end so_far =
      so_far ∙ ap (λ ys. old ++ flat_map (shown_member show) ys) (take_all i xs end)
      ∙ ap (λ ts. old ++ ts) (sym (flat_map-map (λ (m : List ℕ × Data). member_tokens m.0 m.1) show xs))

-- an object is begun, its members are written, and it is closed
pub object_written : (ms : List (List ℕ × Data)) (a b c d : List Token) → b ≡ a ++ begin_object ∷ [] →
    c ≡ b ++ members_tokens ms → d ≡ c ++ end_object ∷ [] →
    d ≡ a ++ value_tokens (with_keys ms)
object_written ms a b c d begun all closed =
    chain a b d (begin_object ∷ []) (members_tokens ms ++ end_object ∷ []) begun
    (chain b c d (members_tokens ms) (end_object ∷ []) all closed)
    ∙ ap (λ ts. a ++ ts) (sym (object_tokens ms))

-- Once all members are written, a closing brace that is written completes the object's tokens.
pub object_closed : {E : Type 0} (ms : List (List ℕ × Data)) (a b c d : List Token) (r : Result (Unit {0}) E) →
    b ≡ a ++ begin_object ∷ [] → c ≡ b ++ members_tokens ms → OnOk r (d ≡ c ++ end_object ∷ []) →
    OnOk r (d ≡ a ++ value_tokens (with_keys ms))
object_closed ms a b c d (Ok u) begun all closed = object_written ms a b c d begun all closed
object_closed ms a b c d (Err e) begun all closed = tt

-- ---- a list among the members of an object

-- A list among members: what is written before its first value, its values, and what is written after its last one.
pub list_within : (before after : List (List ℕ × Data)) (name : List ℕ) (ds : List Data) (ts : List Token) →
    members_tokens (before ++ (name, list ds) ∷ after) ++ ts
    ≡ (members_tokens before ++ (key name ∷ begin_array ∷ [])) ++ (values_tokens ds ++ end_array ∷ (members_tokens after ++ ts))
list_within before after name ds ts =
    members_joined before ((name, list ds) ∷ after) ts
    ∙ ap (λ us. members_tokens before ++ us) from_key
    ∙ sym (append_assoc (members_tokens before) opens (values_tokens ds ++ end_array ∷ rest))
  where
    opens : List Token
    opens = key name ∷ begin_array ∷ []

    rest : List Token
    rest = members_tokens after ++ ts

    from_key : members_tokens ((name, list ds) ∷ after) ++ ts ≡ opens ++ (values_tokens ds ++ end_array ∷ rest)
    from_key =
        append_assoc (key name ∷ value_tokens (list ds)) (members_tokens after) ts
        ∙ ap (λ us. key name ∷ (us ++ rest)) (list_tokens ds)
        ∙ ap (λ us. opens ++ us) (append_assoc (values_tokens ds) (end_array ∷ []) rest)
