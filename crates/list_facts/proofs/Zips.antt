-- Two lists that agree place by place.
use Rattle.std.proofs.Common.{◌++◌, ◌+◌, ◌<◌, ◌∷◌, ◌≡◌, [], All, arith, Err, get_or, IfOk, length, List, map, MatchResult, Ok, refl, Result, set, suc, take, zero, ℕ}
use Rattle.std.specs.List.{All, AllZip, Contains, flat_map, zip}
use Rattle.std.proofs.Math.Path.{ap₂}
use Rattle.std.proofs.lemmas.List.{take_more}
use Rattle.std.proofs.lemmas.List.Elements.{All-head, All-tail}

-- one more pair behind them
pub AllZip-push : {A B : Type 0} (R : A → B → Type 0) (xs : List A) (ys : List B) (x : A) (y : B) → AllZip R xs ys → R x y →
    AllZip R (xs ++ x ∷ []) (ys ++ y ∷ [])
AllZip-push R [] [] x y all more = (more, tt)
AllZip-push R [] (b ∷ ys) x y all more = absurd all
AllZip-push R (a ∷ xs) [] x y all more = absurd all
AllZip-push R (a ∷ xs) (b ∷ ys) x y all more = (all.0, AllZip-push R xs ys x y all.1 more)

-- one more element of the first list, and what was made of it
pub AllZip-take_more : {A B : Type 0} (R : A → B → Type 0) (xs : List A) (ys more : List B) (i : ℕ) (d : A) (y : B) →
    i < length xs → AllZip R (take i xs) ys → R (get_or xs i d) y → more ≡ ys ++ y ∷ [] →
    AllZip R (take (i + 1) xs) more
AllZip-take_more R xs ys more i d y below all next grown =
    rw (take_more xs i d below)
    (rw grown (AllZip-push R (take i xs) ys (get_or xs i d) y all next))

-- two agreements, one after the other
pub AllZip-append : {X Y : Type 0} (R : X → Y → Type 0) (xs us : List X) (ys vs : List Y) → AllZip R xs ys → AllZip R us vs → AllZip R (xs ++ us) (ys ++ vs)
AllZip-append R [] us [] vs one other = other
AllZip-append R [] us (y ∷ ys) vs one other = absurd one
AllZip-append R (x ∷ xs) us [] vs one other = absurd one
AllZip-append R (x ∷ xs) us (y ∷ ys) vs one other = (one.0, AllZip-append R xs us ys vs one.1 other)

-- and what holds part by part holds of the wholes
pub AllZip-flat_map : {X Y A B : Type 0} (R : A → B → Type 0) (f : X → List A) (g : Y → List B) (xs : List X) (ys : List Y) →
    AllZip (λ x y. AllZip R (f x) (g y)) xs ys → AllZip R (flat_map f xs) (flat_map g ys)
AllZip-flat_map R f g [] [] h = tt
AllZip-flat_map R f g [] (y ∷ ys) h = absurd h
AllZip-flat_map R f g (x ∷ xs) [] h = absurd h
AllZip-flat_map R f g (x ∷ xs) (y ∷ ys) h = AllZip-append R (f x) (flat_map f xs) (g y) (flat_map g ys) h.0 (AllZip-flat_map R f g xs ys h.1)

-- a value that is put at its place
pub AllZip-set : {A B : Type 0} (R : A → B → Type 0) (xs : List A) (ys : List B) (i : ℕ) (y : B) → ((d : A) → R (get_or xs i d) y) →
    AllZip R xs ys → AllZip R xs (set ys i y)
AllZip-set R [] [] i y one all = tt
AllZip-set R [] (z ∷ ys) i y one all = absurd all
AllZip-set R (x ∷ xs) [] i y one all = absurd all
AllZip-set R (x ∷ xs) (z ∷ ys) zero y one all = (one x, all.1)
AllZip-set R (x ∷ xs) (z ∷ ys) (suc i) y one all = (all.0, AllZip-set R xs ys i y one all.1)

-- what holds place by place holds at a place
pub AllZip-at : {A B : Type 0} (R : A → B → Type 0) (xs : List A) (ys : List B) (i : ℕ) (d : A) (e : B) → i < length xs →
    AllZip R xs ys → R (get_or xs i d) (get_or ys i e)
AllZip-at R [] ys i d e below h = absurd (omega (arith, below))
AllZip-at R (x ∷ xs) [] i d e below h = absurd h
AllZip-at R (x ∷ xs) (y ∷ ys) zero d e below h = h.0
AllZip-at R (x ∷ xs) (y ∷ ys) (suc i) d e below h = AllZip-at R xs ys i d e (omega (arith, below)) h.1

-- a relation to each element that a property carries over
pub AllZip-weaker : {A B : Type 0} (P Q : A → B → Type 0) (K : A → Type 0) → ((a : A) (b : B) → K a → P a b → Q a b) →
    (xs : List A) (ys : List B) → All K xs → AllZip P xs ys → AllZip Q xs ys
AllZip-weaker P Q K carry [] [] k h = h
AllZip-weaker P Q K carry [] (y ∷ ys) k h = absurd h
AllZip-weaker P Q K carry (x ∷ xs) [] k h = absurd h
AllZip-weaker P Q K carry (x ∷ xs) (y ∷ ys) k h =
    (carry x y (All-head K x xs k) h.0, AllZip-weaker P Q K carry xs ys (All-tail K x xs k) h.1)

-- two lists related to one list are the same if at most one element is related to each element
pub AllZip-same_seconds : {A B : Type 0} (R : A → B → Type 0) → ((a : A) (b c : B) → R a b → R a c → b ≡ c) →
    (xs : List A) (ys zs : List B) → AllZip R xs ys → AllZip R xs zs → ys ≡ zs
AllZip-same_seconds R one [] [] [] h k = refl
AllZip-same_seconds R one [] [] (z ∷ zs) h k = absurd k
AllZip-same_seconds R one [] (y ∷ ys) zs h k = absurd h
AllZip-same_seconds R one (x ∷ xs) [] zs h k = absurd h
AllZip-same_seconds R one (x ∷ xs) (y ∷ ys) [] h k = absurd k
AllZip-same_seconds R one (x ∷ xs) (y ∷ ys) (z ∷ zs) h k =
    ap₂ (λ b bs. b ∷ bs) (one x y z h.0 k.0) (AllZip-same_seconds R one xs ys zs h.1 k.1)

-- a fact of each pair's second
pub All-seconds : {A B : Type 0} (P : A → B → Type 0) (Q : B → Type 0) → ((a : A) (b : B) → P a b → Q b) →
    (xs : List A) (ys : List B) → AllZip P xs ys → All Q ys
All-seconds P Q gives [] [] h k d below = absurd (omega (arith, below))
All-seconds P Q gives [] (y ∷ ys) h k d below = absurd h
All-seconds P Q gives (x ∷ xs) [] h k d below = absurd h
All-seconds P Q gives (x ∷ xs) (y ∷ ys) h zero d below = gives x y h.0
All-seconds P Q gives (x ∷ xs) (y ∷ ys) h (suc k) d below = All-seconds P Q gives xs ys h.1 k d (omega (arith, below))

-- if each pair's second gives its first, so do all
pub AllZip-map_back : {A B : Type 0} (P : A → B → Type 0) (f : B → A) → ((a : A) (b : B) → P a b → f b ≡ a) →
    (xs : List A) (ys : List B) → AllZip P xs ys → map f ys ≡ xs
AllZip-map_back P f gives [] [] h = refl
AllZip-map_back P f gives [] (y ∷ ys) h = absurd h
AllZip-map_back P f gives (x ∷ xs) [] h = absurd h
AllZip-map_back P f gives (x ∷ xs) (y ∷ ys) h = both (gives x y h.0) (AllZip-map_back P f gives xs ys h.1)
  where
    both : {X : Type 0} {a b : X} {rest more : List X} → a ≡ b → rest ≡ more → (a ∷ rest) ≡ (b ∷ more)
    both e h = cc

AllZip-from_ok : (X T E : Type 0) (R : X → T → Type 0) (xs : List X) (ys : List T) →
    AllZip (λ (x : X) (r : Result T E). IfOk r (R x)) xs (map Ok ys) → AllZip R xs ys
AllZip-from_ok X T E R [] [] h = tt
AllZip-from_ok X T E R [] (y ∷ ys) h = absurd h
AllZip-from_ok X T E R (x ∷ xs) [] h = absurd h
AllZip-from_ok X T E R (x ∷ xs) (y ∷ ys) h = (h.0, AllZip-from_ok X T E R xs ys h.1)

-- what was tried of each element is collected, or one of them wasn't there
pub AllZip-collected : {X T E V : Type 0} (items : V → List T) (R : X → T → Type 0) (xs : List X) (tried : List (Result T E)) (r : Result V E) →
    AllZip (λ (x : X) (t : Result T E). IfOk t (R x)) xs tried →
    MatchResult r (λ v. (ys : List T) × (tried ≡ map Ok ys) × (items v ≡ ys)) (λ e. Contains tried (Err e)) →
    IfOk r (λ v. AllZip R xs (items v))
AllZip-collected {X} {T} {E} items R xs tried (Ok v) each is =
    rw is.2 (AllZip-from_ok X T E R xs is.0 (rw is.1 at each))
AllZip-collected items R xs tried (Err e) each is = tt

-- what is said of each is said of a part of each
pub AllZip-map_seconds : {A B C : Type 0} (R : A → B → Type 0) (S : A → C → Type 0) (part : B → C) → ((a : A) (b : B) → R a b → S a (part b)) →
    (xs : List A) (ys : List B) → AllZip R xs ys → AllZip S xs (map part ys)
AllZip-map_seconds R S part says [] [] each = tt
AllZip-map_seconds R S part says [] (y ∷ ys) each = absurd each
AllZip-map_seconds R S part says (x ∷ xs) [] each = absurd each
AllZip-map_seconds R S part says (x ∷ xs) (y ∷ ys) each = (says x y each.0, AllZip-map_seconds R S part says xs ys each.1)

-- and of two parts of each
pub AllZip-zip_of_maps : {A B C D : Type 0} (R : A → B → Type 0) (S : A → C → D → Type 0) (left : B → C) (right : B → D) →
    ((a : A) (b : B) → R a b → S a (left b) (right b)) → (xs : List A) (ys : List B) → AllZip R xs ys →
    AllZip (λ x p. S x p.0 p.1) xs (zip (map left ys) (map right ys))
AllZip-zip_of_maps R S left right says [] [] each = tt
AllZip-zip_of_maps R S left right says [] (y ∷ ys) each = absurd each
AllZip-zip_of_maps R S left right says (x ∷ xs) [] each = absurd each
AllZip-zip_of_maps R S left right says (x ∷ xs) (y ∷ ys) each =
    (says x y each.0, AllZip-zip_of_maps R S left right says xs ys each.1)

-- what is said of each place of three lists, in two parts
pub AllZip-unzip : {A B C : Type 0} (R : A → B → C → Type 0) (S : A → B → Type 0) (T : A → C → Type 0) →
    ((a : A) (b : B) (c : C) → R a b c → S a b × T a c) → (xs : List A) (ys : List B) (zs : List C) → length zs ≡ length ys →
    AllZip (λ x p. R x p.0 p.1) xs (zip ys zs) → AllZip S xs ys × AllZip T xs zs
AllZip-unzip R S T says [] [] [] same each = (tt, tt)
AllZip-unzip R S T says [] [] (z ∷ zs) same each = absurd (omega (arith, same))
AllZip-unzip R S T says [] (y ∷ ys) [] same each = absurd (omega (arith, same))
AllZip-unzip R S T says [] (y ∷ ys) (z ∷ zs) same each = absurd each
AllZip-unzip R S T says (x ∷ xs) [] zs same each = absurd each
AllZip-unzip R S T says (x ∷ xs) (y ∷ ys) [] same each = absurd each
AllZip-unzip R S T says (x ∷ xs) (y ∷ ys) (z ∷ zs) same each =
    let first = says x y z each.0 in
    let rest = AllZip-unzip R S T says xs ys zs (omega (arith, same)) each.1 in
    ((first.0, rest.0), (first.1, rest.1))

-- what holds of two parts of each holds of both together
pub AllZip-zip : {A B C : Type 0} (R : A → B → C → Type 0) (S : A → B → Type 0) (T : A → C → Type 0) →
    ((a : A) (b : B) (c : C) → S a b → T a c → R a b c) → (xs : List A) (ys : List B) (zs : List C) →
    AllZip S xs ys → AllZip T xs zs → AllZip (λ x p. R x p.0 p.1) xs (zip ys zs)
AllZip-zip R S T says [] [] [] s t = tt
AllZip-zip R S T says [] [] (z ∷ zs) s t = absurd t
AllZip-zip R S T says [] (y ∷ ys) zs s t = absurd s
AllZip-zip R S T says (x ∷ xs) [] zs s t = absurd s
AllZip-zip R S T says (x ∷ xs) (y ∷ ys) [] s t = absurd t
AllZip-zip R S T says (x ∷ xs) (y ∷ ys) (z ∷ zs) s t = (says x y z s.0 t.0, AllZip-zip R S T says xs ys zs s.1 t.1)
