-- Lists whose elements are spelled in parts of one size, one after another.
use Rattle.std.proofs.Common.{◌*◌, ◌++◌, ◌+◌, ◌-◌, ◌<◌, ◌∙◌, ◌∷◌, ◌≡◌, ◌≤◌, [], All, ap, append_assoc, arith, drop, drop-drop, get_or, inl, inr, length, length-append, length-drop, List, lit<, refl, suc, sym, take, take-append-drop, zero, ℕ}
use Rattle.std.specs.List.{flat_map}
use Rattle.std.proofs.Math.Seq.{take-add}
use Rattle.std.proofs.lemmas.Bool.{cases_lt}
use Rattle.std.proofs.lemmas.List.{append-nil, drop_at, flat_map_more, get_or-drop, get_or-take, get_or_default, get_or_past, length-take-le, take_at, take_more}

-- each number is a byte
abbrev pub AreBytes : List ℕ → Type 0
AreBytes x = (i : ℕ) → get_or x i 0 < 256

-- so is each of a rest
pub AreBytes-drop : (n : ℕ) (x : List ℕ) → AreBytes x → AreBytes (drop n x)
AreBytes-drop n x h i = rw (get_or-drop n x i 0) (h (n + i))

-- and of a front
pub AreBytes-take : (n : ℕ) (x : List ℕ) → n ≤ length x → AreBytes x → AreBytes (take n x)
AreBytes-take n x fits h i = elim (cases_lt i n) [
  | inl low ↦ rw (get_or-take n x i 0 low) (h i)
  | inr high ↦ rw (get_or_past (take n x) i 0 (omega (arith, length-take-le n x fits))) (lit< tt)
]

-- the length of parts of one size together
pub length-flat_map_of : {X : Type 0} (spell : X → List ℕ) (size : ℕ) (xs : List X) →
    All (λ v. length (spell v) ≡ size) xs → length (flat_map spell xs) ≡ size * length xs
length-flat_map_of spell size [] h = omega arith
length-flat_map_of spell size (v ∷ xs) h =
    omega (
      arith,
      length-append (spell v) (flat_map spell xs),
      h 0 v (omega arith),
      length-flat_map_of spell size xs (λ k d hk. h (suc k) d (omega (arith, hk))),
    )

-- two lists that are spelled alike are the same, if two values that are spelled alike are
pub flat_map-injective : {X : Type 0} (spell : X → List ℕ) (Fits : X → Type 0) (size : ℕ) (xs ys : List X) →
    ((v : X) → Fits v → length (spell v) ≡ size) → ((v w : X) → Fits v → Fits w → spell v ≡ spell w → v ≡ w) →
    All Fits xs → All Fits ys → length xs ≡ length ys → flat_map spell xs ≡ flat_map spell ys → xs ≡ ys
flat_map-injective spell Fits size [] [] sized one hx hy l same = refl
flat_map-injective spell Fits size [] (w ∷ ys) sized one hx hy l same = absurd (omega (arith, l))
flat_map-injective spell Fits size (v ∷ xs) [] sized one hx hy l same = absurd (omega (arith, l))
flat_map-injective spell Fits size (v ∷ xs) (w ∷ ys) sized one hx hy l same =
    let fv : Fits v = hx 0 v (omega arith) in
    let fw : Fits w = hy 0 w (omega arith) in
    let first : spell v ≡ spell w =
    sym (take_at (spell v) (flat_map spell xs) size (sized v fv)) ∙ ap (take size) same
    ∙ take_at (spell w) (flat_map spell ys) size (sized w fw) in
    let others : flat_map spell xs ≡ flat_map spell ys =
    sym (drop_at (spell v) (flat_map spell xs) size (sized v fv)) ∙ ap (drop size) same
    ∙ drop_at (spell w) (flat_map spell ys) size (sized w fw) in
    ap (λ z. z ∷ xs) (one v w fv fw first)
    ∙ ap (λ zs. w ∷ zs)
    (flat_map-injective spell Fits size xs ys sized one (λ k d hk. hx (suc k) d (omega (arith, hk))) (λ k d hk. hy (suc k) d (omega (arith, hk))) (omega (arith, l)) others)

-- one more value is written after those before it
pub written_more : {X : Type 0} (spell : X → List ℕ) (out old new part : List ℕ) (xs : List X) (i : ℕ) (v : X) →
    i < length xs → v ≡ get_or xs i v → part ≡ spell v →
    old ≡ out ++ flat_map spell (take i xs) → new ≡ old ++ part → new ≡ out ++ flat_map spell (take (i + 1) xs)
written_more spell out old new part xs i v here is hp ho hn =
    hn ∙ ap (λ t. t ++ part) ho ∙ ap (λ t. (out ++ flat_map spell (take i xs)) ++ t) (hp ∙ ap spell is)
    ∙ flat_map_more spell out (take i xs) (get_or xs i v)
    ∙ ap (λ t. out ++ flat_map spell t) (sym (take_more xs i v here))

-- one more value is read after those before it
pub read_more : {X : Type 0} (spell : X → List ℕ) (size i : ℕ) (x : List ℕ) (xs : List X) (v : X) →
    flat_map spell xs ≡ take (size * i) x →
    spell v ≡ take (size * (i + 1) - size * i) (drop (size * i) x) →
    flat_map spell (xs ++ v ∷ []) ≡ take (size * (i + 1)) x
read_more spell size i x xs v before here =
    sym (flat_map_more spell [] xs v)
    ∙ ap (λ t. t ++ spell v) before
    ∙ ap (λ t. take (size * i) x ++ t)
    (here ∙ ap (λ k. take k (drop (size * i) x)) (let e : size * (i + 1) - size * i ≡ size = omega arith in e))
    ∙ sym (take-add (size * i) size x)
    ∙ ap (λ k. take k x) (let e : size * i + size ≡ size * (i + 1) = omega arith in e)

-- one more value fits, like those before it
pub fit_more : {X : Type 0} (Fits : X → Type 0) (xs : List X) (i : ℕ) (v : X) → i < length xs → v ≡ get_or xs i v →
    Fits v →
    ((k : ℕ) (d : X) → k < i → Fits (get_or xs k d)) → (k : ℕ) (d : X) → k < i + 1 → Fits (get_or xs k d)
fit_more Fits xs i v here is fits before k d hk = elim (cases_lt k i) [
  | inl low ↦ before k d low
  | inr high ↦
      let e : k ≡ i = omega (arith, hk, high) in
      let same : get_or xs k d ≡ v = ap (λ j. get_or xs j d) e ∙ get_or_default xs i d v here ∙ sym is in
      rw same fits
]

-- what n parts of a size spell, by a reader of one part
abbrev pub read_parts : {X : Type 0} → (List ℕ → X) → ℕ → ℕ → List ℕ → List X
read_parts read size zero x = []
read_parts read size (suc n) x = read (take size x) ∷ read_parts read size n (drop size x)

-- a list is read from the bytes that spell it, whatever follows them, if each element is read from those that spell it
pub parts_again : {X : Type 0} (spell : X → List ℕ) (Fits : X → Type 0) (read : List ℕ → X) (size : ℕ) (xs : List X) (rest : List ℕ) →
    ((v : X) → Fits v → length (spell v) ≡ size) → ((v : X) → Fits v → read (spell v) ≡ v) → All Fits xs →
    read_parts read size (length xs) (flat_map spell xs ++ rest) ≡ xs
parts_again spell Fits read size [] rest sized again all = refl
parts_again {X} spell Fits read size (v ∷ xs) rest sized again all =
    let fits : Fits v = all 0 v (omega arith) in
    let whole : (spell v ++ flat_map spell xs) ++ rest ≡ spell v ++ (flat_map spell xs ++ rest) =
    append_assoc (spell v) (flat_map spell xs) rest in
    let first : take size (flat_map spell (v ∷ xs) ++ rest) ≡ spell v =
    ap (take size) whole ∙ take_at (spell v) (flat_map spell xs ++ rest) size (sized v fits) in
    let others : drop size (flat_map spell (v ∷ xs) ++ rest) ≡ flat_map spell xs ++ rest =
    ap (drop size) whole ∙ drop_at (spell v) (flat_map spell xs ++ rest) size (sized v fits) in
    ap (λ y. read y ∷ read_parts read size (length xs) (drop size (flat_map spell (v ∷ xs) ++ rest))) first
    ∙ ap (λ y. read (spell v) ∷ read_parts read size (length xs) y) others
    ∙ ap (λ (w : X). w ∷ read_parts read size (length xs) (flat_map spell xs ++ rest)) (again v fits)
    ∙ ap (λ (ws : List X). v ∷ ws)
    (parts_again spell Fits read size xs rest sized again (λ k d here. all (suc k) d (omega (arith, here))))

-- so a list is read again from exactly the bytes that spell it
pub list_again : {X : Type 0} (spell : X → List ℕ) (Fits : X → Type 0) (read : List ℕ → X) (size : ℕ) (xs : List X) (n : ℕ) (y : List ℕ) →
    ((v : X) → Fits v → length (spell v) ≡ size) → ((v : X) → Fits v → read (spell v) ≡ v) → All Fits xs →
    n ≡ length xs → y ≡ flat_map spell xs → read_parts read size n y ≡ xs
list_again spell Fits read size xs n y sized again all many is =
    ap (λ m. read_parts read size m y) many
    ∙ ap (read_parts read size (length xs)) (is ∙ sym (append-nil (flat_map spell xs)))
    ∙ parts_again spell Fits read size xs [] sized again all

-- as many values are read as there are parts
pub length-read_parts : {X : Type 0} (read : List ℕ → X) (size n : ℕ) (x : List ℕ) → length (read_parts read size n x) ≡ n
length-read_parts read size zero x = refl
length-read_parts read size (suc n) x = ap suc (length-read_parts read size n (drop size x))

-- the value at place k is read from the part there
pub get_or-read_parts : {X : Type 0} (read : List ℕ → X) (size n k : ℕ) (d : X) (x : List ℕ) → k < n →
    get_or (read_parts read size n x) k d ≡ read (take size (drop (size * k) x))
get_or-read_parts read size zero k d x h = absurd (omega arith)
get_or-read_parts read size (suc n) zero d x h = let e : size * 0 ≡ 0 = omega arith in rw e
get_or-read_parts read size (suc n) (suc k) d x h =
    let e : size * suc k ≡ size + size * k = omega arith in
    rw (e, ← drop-drop (size * k) size x) (get_or-read_parts read size n k d (drop size x) (omega arith))

-- if each part is spelled as it was read, so is the whole
pub flat_map-read_parts : {X : Type 0} (spell : X → List ℕ) (read : List ℕ → X) (size n : ℕ) (x : List ℕ) →
    ((y : List ℕ) → length y ≡ size → AreBytes y → spell (read y) ≡ y) → length x ≡ size * n → AreBytes x →
    flat_map spell (read_parts read size n x) ≡ x
flat_map-read_parts spell read size zero [] again l h = refl
flat_map-read_parts spell read size zero (b ∷ x) again l h = absurd (omega (arith, l))
flat_map-read_parts spell read size (suc n) x again l h =
    let fits : size ≤ length x = omega (arith, l) in
    let first : spell (read (take size x)) ≡ take size x =
    again _ (length-take-le size x fits) (AreBytes-take size x fits h) in
    let rest : flat_map spell (read_parts read size n (drop size x)) ≡ drop size x =
    flat_map-read_parts spell read size n _ again (omega (arith, length-drop size x, l)) (AreBytes-drop size x h) in
    rw (first, rest) (take-append-drop size x)

-- the part at place k is the one that spells the value there
pub part-flat_map : {X : Type 0} (spell : X → List ℕ) (size k : ℕ) (d : X) (xs : List X) →
    All (λ v. length (spell v) ≡ size) xs → k < length xs →
    take size (drop (size * k) (flat_map spell xs)) ≡ spell (get_or xs k d)
part-flat_map spell size k d [] h hk = absurd (omega arith)
part-flat_map spell size zero d (v ∷ xs) h hk =
    let e : size * 0 ≡ 0 = omega arith in
    rw e (take_at (spell v) (flat_map spell xs) size (h 0 v (omega arith)))
part-flat_map spell size (suc k) d (v ∷ xs) h hk =
    let e : size * suc k ≡ size + size * k = omega arith in
    rw (
      e,
      ← drop-drop (size * k) size (spell v ++ flat_map spell xs),
      drop_at (spell v) (flat_map spell xs) size (h 0 v (omega arith)),
    )
    (part-flat_map spell size k d xs (λ j e hj. h (suc j) e (omega (arith, hj))) (omega arith))
