-- Texts one after another: where a byte of all is in its text.
use Rattle.std.proofs.Common.{◌≡◌, ◌<◌, ◌≤◌, ◌+◌, ◌-◌, ◌*◌, ℕ, zero, suc, List, [], ◌∷◌, ◌++◌, length, length-append, get_or, arith, sym, ◌∙◌, ap}
use Rattle.std.specs.List.{between, flat_map}
use Rattle.std.proofs.lemmas.List.{get_or_append_left, get_or-append_right, get_or-map, same_lists}
use Rattle.std.proofs.lemmas.List.Edits.{length-between, get_or-between}
use Rattle.scrub_disk.specs.Joined.{text_at}

-- the texts of the first k elements have S bytes each
abbrev pub AreFull : {X : Type 0} → (X → List ℕ) → ℕ → ℕ → List X → Type 0
AreFull text S k xs = (j : ℕ) → j < k → length (text_at text xs j) ≡ S

-- byte i of text k is byte k * S + i of all, if each text before it has S bytes
pub get_or-joined : {X : Type 0} (text : X → List ℕ) (xs : List X) (S k i d : ℕ) → AreFull text S k xs →
    i < length (text_at text xs k) → get_or (flat_map text xs) (k * S + i) d ≡ get_or (text_at text xs k) i d
get_or-joined text [] S k i d full hi = absurd (omega (arith, hi))
get_or-joined text (p ∷ ps) S zero i d full hi =
    ap (λ m. get_or (text p ++ flat_map text ps) m d) (let e : 0 * S + i ≡ i = omega arith in e)
    ∙ get_or_append_left (text p) (flat_map text ps) d i hi
get_or-joined text (p ∷ ps) S (suc k) i d full hi =
    let first : length (text p) ≡ S = full 0 (omega arith) in
    get_or-append_right (text p) (flat_map text ps) S (suc k * S + i) d first (omega arith)
    ∙ ap (λ m. get_or (flat_map text ps) m d) (let e : suc k * S + i - S ≡ k * S + i = omega arith in e)
    ∙ get_or-joined text ps S k i d (λ j hj. full (suc j) (omega (arith, hj))) hi

-- as many bytes as texts before and in text k are there
pub length-joined : {X : Type 0} (text : X → List ℕ) (xs : List X) (S k : ℕ) → AreFull text S k xs → k < length xs →
    k * S + length (text_at text xs k) ≤ length (flat_map text xs)
length-joined text [] S k full hk = absurd (omega (arith, hk))
length-joined text (p ∷ ps) S zero full hk = omega (arith, length-append (text p) (flat_map text ps))
length-joined text (p ∷ ps) S (suc k) full hk =
    let first : length (text p) ≡ S = full 0 (omega arith) in
    let rest : k * S + length (text_at text ps k) ≤ length (flat_map text ps) =
    length-joined text ps S k (λ j hj. full (suc j) (omega (arith, hj))) (omega (arith, hk)) in
    omega (arith, first, rest, length-append (text p) (flat_map text ps))

-- a piece of text k is the piece of all from its place on
pub between-joined : {X : Type 0} (text : X → List ℕ) (xs : List X) (S k a n : ℕ) → AreFull text S k xs → k < length xs →
    a + n ≤ length (text_at text xs k) →
    between (k * S + a) (k * S + a + n) (flat_map text xs) ≡ between a (a + n) (text_at text xs k)
between-joined text xs S k a n full hk fits =
    let room = length-joined text xs S k full hk in
    let l : length (between (k * S + a) (k * S + a + n) (flat_map text xs)) ≡ n =
    length-between (flat_map text xs) (k * S + a) (k * S + a + n) (omega (arith, room, fits))
    ∙ (let e : k * S + a + n - (k * S + a) ≡ n = omega arith in e) in
    let m : length (between a (a + n) (text_at text xs k)) ≡ n =
    length-between (text_at text xs k) a (a + n) fits ∙ (let e : a + n - a ≡ n = omega arith in e) in
    same_lists _ _ (l ∙ sym m)
    (λ i d hi.
    get_or-between (flat_map text xs) (k * S + a) (k * S + a + n) i d (omega (arith, hi, l))
    ∙ ap (λ j. get_or (flat_map text xs) j d) (let e : k * S + a + i ≡ k * S + (a + i) = omega arith in e)
    ∙ get_or-joined text xs S k (a + i) d full (omega (arith, hi, l, fits))
    ∙ sym (get_or-between (text_at text xs k) a (a + n) i d (omega (arith, hi, l))))

-- the text of an element that was read from the list
pub text_at_is : {X : Type 0} (text : X → List ℕ) (xs : List X) (k : ℕ) (x : X) → k < length xs → x ≡ get_or xs k x →
    text_at text xs k ≡ text x
text_at_is text xs k x hk e = get_or-map text xs k x [] hk ∙ ap text (sym e)
