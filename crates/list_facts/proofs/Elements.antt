-- What a list contains: behind a first element, after a test, and after a map; what equal lists begin with.
use Rattle.std.proofs.Common.{◌++◌, ◌+◌, ◌<◌, ◌∙◌, ◌∷◌, ◌≡◌, ◌⊎◌, [], All, ap, arith, Bool, cond, Contains, false, get_or, inl, inr, length, length-append, List, map, None, Option, refl, Some, subst, suc, sum_by, sym, true, zero, ℕ}
use Rattle.std.specs.List.{cons_option, Contains, filter_map, flat_map}
use Rattle.std.specs.Prelude.{filter}
use Rattle.std.proofs.lemmas.Bool.{false≢true}
use Rattle.std.proofs.lemmas.List.{get_or-append-add, get_or-map, get_or_append_left, length-append, length-map}
use Rattle.std.proofs.lemmas.List.Elements.{All-cons, All-contains, All-contains_itself, All-filter, All-head, All-nil, All-push, All-same, All-tail, Contains-append_left, Contains-append_right, filter_passes}
use Rattle.std.proofs.lemmas.List.Sums.{sum_by-cons}
use Rattle.std.proofs.lemmas.Option.{same_Some}

-- an element is the first one, or comes after it
pub Contains-cases : {X : Type 0} (x : X) (xs : List X) (q : X) → Contains (x ∷ xs) q → (x ≡ q) ⊎ Contains xs q
Contains-cases x xs q (zero, here, is) = inl is
Contains-cases x xs q (suc k, here, is) = inr (k, omega (arith, here), is)

-- what a list contains, it contains with one more in front
pub Contains-behind : {X : Type 0} (x : X) (xs : List X) (q : X) → Contains xs q → Contains (x ∷ xs) q
Contains-behind x xs q c = (suc c.0, omega (arith, c.1), c.2)

-- an element that passes a test is among those that do
pub Contains-filter : {X : Type 0} (p : X → Bool) (xs : List X) (x : X) → p x ≡ true → Contains xs x →
    Contains (filter p xs) x
Contains-filter p [] x passes c = c
Contains-filter {X} p (y ∷ xs) x passes c = by (p y) refl c.0 c.1 c.2 (Contains-filter p xs x passes)
  where
    by : (t : Bool) → p y ≡ t → (k : ℕ) → k < length (y ∷ xs) → get_or (y ∷ xs) k x ≡ x →
        (Contains xs x → Contains (filter p xs) x) → Contains (cond t (y ∷ filter p xs) (filter p xs)) x
    by true t zero here is later = (zero, omega arith, is)
    by true t (suc k) here is later = Contains-behind y (filter p xs) x (later (k, omega (arith, here), is))
    by false t zero here is later = absurd (false≢true (sym t ∙ ap p is ∙ passes))
    by false t (suc k) here is later = later (k, omega (arith, here), is)

-- what passes a test is an element that does
pub Contains-from_filter : {X : Type 0} (p : X → Bool) (xs : List X) (x : X) → Contains (filter p xs) x → Contains xs x × (p x ≡ true)
Contains-from_filter p xs x there = (
  All-contains (Contains xs) (filter p xs) x (All-filter p (Contains xs) xs (All-contains_itself xs)) there,
  All-contains (λ y. p y ≡ true) (filter p xs) x (filter_passes p xs) there,
)

-- an element is among what is mapped as what it is mapped to
pub Contains-map : {X Y : Type 0} (f : X → Y) (xs : List X) (x : X) → Contains xs x → Contains (map f xs) (f x)
Contains-map f xs x (i, inside, is) = (i, omega (arith, inside, length-map xs f), get_or-map f xs i x (f x) inside ∙ ap f is)

-- an element that something is made of
pub Contains-from_map : {X Y : Type 0} (h : X → Y) (xs : List X) (y : Y) → Contains (map h xs) y → (x : X) × Contains xs x × (h x ≡ y)
Contains-from_map h [] y there = absurd (omega (arith, there.1))
Contains-from_map h (x ∷ xs) y there = elim (Contains-cases (h x) (map h xs) y there) [
  | inl here ↦ (x, (0, omega arith, refl), here)
  | inr later ↦ let m = Contains-from_map h xs y later in (m.0, Contains-behind x xs m.0 m.1, m.2)
]

-- the elements that give something
pub Contains-from_filter_map : {X Y : Type 0} (h : X → Option Y) (xs : List X) (y : Y) → Contains (filter_map h xs) y →
    (x : X) × Contains xs x × (h x ≡ Some y)
Contains-from_filter_map h [] y there = absurd (omega (arith, there.1))
Contains-from_filter_map {X} {Y} h (x ∷ xs) y there = by (h x) refl there (Contains-from_filter_map h xs y)
  where
    behind : (z : X) × Contains xs z × (h z ≡ Some y) → (z : X) × Contains (x ∷ xs) z × (h z ≡ Some y)
    behind (z, there, is) = (z, Contains-behind x xs z there, is)

    first : (v : Y) → h x ≡ Some v → (v ≡ y) ⊎ Contains (filter_map h xs) y →
        (Contains (filter_map h xs) y → (z : X) × Contains xs z × (h z ≡ Some y)) → (z : X) × Contains (x ∷ xs) z × (h z ≡ Some y)
    first v is (inl here) rest = (x, (0, omega arith, refl), is ∙ ap Some here)
    first v is (inr later) rest = behind (rest later)

    by : (o : Option Y) → h x ≡ o → Contains (cons_option o (filter_map h xs)) y →
        (Contains (filter_map h xs) y → (z : X) × Contains xs z × (h z ≡ Some y)) → (z : X) × Contains (x ∷ xs) z × (h z ≡ Some y)
    by None is here rest = behind (rest here)
    by (Some v) is here rest = first v is (Contains-cases v (filter_map h xs) y here) rest

-- what an element gives is among what all give
pub Contains-filter_map : {X Y : Type 0} (h : X → Option Y) (xs : List X) (x : X) (y : Y) → Contains xs x → h x ≡ Some y → Contains (filter_map h xs) y
Contains-filter_map h [] x y there is = absurd (omega (arith, there.1))
Contains-filter_map {X} {Y} h (z ∷ xs) x y there is = by (h z) refl (Contains-cases z xs x there) (λ later. Contains-filter_map h xs x y later is)
  where
    none : None ≡ Some y → ⊥
    none e = cc

    by : (o : Option Y) → h z ≡ o → (z ≡ x) ⊎ Contains xs x → (Contains xs x → Contains (filter_map h xs) y) →
        Contains (cons_option o (filter_map h xs)) y
    by None e (inl here) rest = absurd (none (sym e ∙ ap h here ∙ is))
    by None e (inr later) rest = rest later
    by (Some v) e (inl here) rest = (0, omega arith, same_Some v y (sym e ∙ ap h here ∙ is))
    by (Some v) e (inr later) rest = Contains-behind v (filter_map h xs) y (rest later)

-- an element of a part is in the parts put together
pub Contains-flat_map : {X A : Type 0} (f : X → List A) (xs : List X) (x : X) (y : A) → Contains xs x → Contains (f x) y →
    Contains (flat_map f xs) y
Contains-flat_map f [] x y (i, below, is) there = absurd (omega (arith, below))
Contains-flat_map {X} {A} f (z ∷ xs) x y among there = elim (Contains-cases z xs x among) [
  | inl here ↦ Contains-append_left (f z) (flat_map f xs) y (rw here there)
  | inr later ↦ Contains-append_right (f z) (flat_map f xs) y (Contains-flat_map f xs x y later there)
]

-- what holds of each element holds of some of them
pub All-of_contained : {X : Type 0} (P : X → Type 0) (xs ys : List X) → All P xs → All (Contains xs) ys → All P ys
All-of_contained P xs ys h each = λ k d hk. let there = each k d hk in subst P there.2 (h there.0 (get_or ys k d) there.1)

-- what holds of the whole holds of its parts
pub All-flat_map_parts : {X A : Type 0} (P : A → Type 0) (f : X → List A) (xs : List X) → All P (flat_map f xs) → All (λ x. All P (f x)) xs
All-flat_map_parts P f [] h = All-nil (λ x. All P (f x))
All-flat_map_parts {A = A} P f (x ∷ xs) h =
    let rest : List A = flat_map f xs in
    let long = length-append (f x) rest in
    All-cons (λ y. All P (f y)) x xs
    (λ k d below. rw (get_or_append_left (f x) rest d k below) at (h k d (omega (arith, long, below))))
    (All-flat_map_parts P f xs (λ k d below. rw (get_or-append-add (f x) rest k d) at (h (length (f x) + k) d (omega (arith, long, below)))))

-- one more element
pub length_of_one_more : {X : Type 0} (xs ys : List X) (x : X) → ys ≡ xs ++ x ∷ [] → length ys ≡ length xs + 1
length_of_one_more xs ys x is =
    let long : length ys ≡ length (xs ++ x ∷ []) = ap (λ (l : List _). length l) is in
    omega (arith, long, length-append xs (x ∷ []))

-- what holds of a list and of one more element holds of both together
pub All-one_more : {X : Type 0} (P : X → Type 0) (xs ys : List X) (x : X) → ys ≡ xs ++ x ∷ [] → All P xs → P x → All P ys
All-one_more P xs ys x is all one = All-same P ys (xs ++ x ∷ []) is (All-push P xs x all one)

-- what holds of all holds of the last
pub All-last : {X : Type 0} (P : X → Type 0) (xs ys : List X) (x : X) → ys ≡ xs ++ x ∷ [] → All P ys → P x
All-last P xs ys x is all = go xs (All-same P (xs ++ x ∷ []) ys (sym is) all)
  where
    go : (zs : List _) → All P (zs ++ x ∷ []) → P x
    go [] h = All-head P x [] h
    go (z ∷ zs) h = go zs (All-tail P z (zs ++ x ∷ []) h)

-- what holds of all holds of the first
pub All-first : {X : Type 0} (P : X → Type 0) (xs rest : List X) (x : X) → xs ≡ x ∷ rest → All P xs → P x
All-first P xs rest x is all = All-head P x rest (rw is at all)

-- a sum over one and the rest
pub sum_by-first_and_rest : {X : Type 0} (f : X → ℕ) (xs rest : List X) (x : X) → xs ≡ x ∷ rest → sum_by f xs ≡ f x + sum_by f rest
sum_by-first_and_rest f xs rest x is = ap (λ (l : List _). sum_by f l) is ∙ sum_by-cons f x rest

-- Equal lists have the same first element.
pub same_first : {X : Type 0} (x y : X) (xs ys : List X) → (x ∷ xs) ≡ (y ∷ ys) → x ≡ y
same_first x y xs ys e = cc

-- Equal lists have the same elements behind the first.
pub same_behind_first : {X : Type 0} (x y : X) (xs ys : List X) → (x ∷ xs) ≡ (y ∷ ys) → xs ≡ ys
same_behind_first x y xs ys e = cc

-- The empty list has no first element.
pub nil_has_no_first : {X : Type 0} (x : X) (xs : List X) → [] ≡ (x ∷ xs) → ⊥
nil_has_no_first x xs e = cc

-- Two lists that make the empty list one after the other are both empty.
pub both_nil : {X : Type 0} (xs ys : List X) → xs ++ ys ≡ [] → (xs ≡ []) × (ys ≡ [])
both_nil [] ys e = (refl, e)
both_nil (x ∷ xs) ys e = absurd (nil_has_no_first x (xs ++ ys) (sym e))
