-- What an operation on vectors does in one lane.
use Rattle.std.proofs.Common.{◌^◌, ◌≡◌, ℕ, ◌<◌, List, length, slice_index, slice_set, map, [], ◌∷◌, replicate, refl, ap, ap₂, ◌∙◌, arith}
use Rattle.std.proofs.lemmas.List.{get_or-map, get_or-replicate, length-map, length-replicate, map-set}
use Rattle.std.proofs.lemmas.Simd.{Each1-get_or, length-zip2, get_or-zip2}
use Rattle.std.specs.Simd.Lanes.{Each1, zip2}
use mir.Syntax.{w32}
use mir.Val.{Fits}
use Rattle.sha2.specs.Sha256.{rounds}
use Rattle.sha_lanes.specs.Lanes.{word_in, column}

-- a vector of n lanes has the word x in lane l
pub record HasIn (n l : ℕ) (xs : List ℕ) (x : ℕ) : Type 0 where
  pub long : length xs ≡ n
  pub word : slice_index xs l ≡ x

-- a vector that is read in lane l
pub read : {n l : ℕ} {xs : List ℕ} → length xs ≡ n → HasIn n l xs (slice_index xs l)
read e = record { long = e; word = refl }

-- a vector that is known in lane l
pub known : {n l : ℕ} {xs : List ℕ} {x : ℕ} → slice_index xs l ≡ x → length xs ≡ n → HasIn n l xs x
known word long = record { long = long; word = word }

-- an operation on two vectors is the same operation in each lane
pub both : {n l : ℕ} (f : ℕ → ℕ → ℕ) {xs ys : List ℕ} {x y : ℕ} → l < n → HasIn n l xs x → HasIn n l ys y → HasIn n l (zip2 f xs ys) (f x y)
both {n} {l} f {xs} {ys} {x} {y} lt a b =
    let la = a.long in
    let lb = b.long in
    let same : length xs ≡ length ys = omega arith in
    record {
      long = length-zip2 f xs ys same ∙ la;
      word = get_or-zip2 f xs ys l 0 0 0 (omega arith) (omega arith) ∙ ap₂ f a.word b.word;
    }

-- an operation on one vector
pub each : {n l : ℕ} (f : ℕ → ℕ) {xs : List ℕ} {x : ℕ} → l < n → HasIn n l xs x → HasIn n l (map f xs) (f x)
each {n} {l} f {xs} {x} lt a =
    let la = a.long in
    record {
      long = length-map xs f ∙ la;
      word = get_or-map f xs l 0 0 (omega arith) ∙ ap f a.word;
    }

-- a vector with the same word in each lane
pub splat : {n l : ℕ} (x : ℕ) → l < n → HasIn n l (replicate n x) x
splat {n} {l} x lt = record { long = length-replicate n x; word = get_or-replicate n l x 0 lt }

-- a word of a column
pub column_at : (l i : ℕ) (rows : List (List ℕ)) → i < length rows → slice_index (column l rows) i ≡ word_in l rows i
column_at l i rows lt = get_or-map (λ row. slice_index row l) rows i [] 0 lt

-- A column has one word for each vector.
pub length-column : (l : ℕ) (rows : List (List ℕ)) → length (column l rows) ≡ length rows
length-column l rows = length-map rows (λ row. slice_index row l)

-- a column where a vector is replaced
pub column_set : (l i : ℕ) (rows : List (List ℕ)) (row : List ℕ) → column l (slice_set rows i row) ≡ slice_set (column l rows) i (slice_index row l)
column_set l i rows row = map-set (λ row. slice_index row l) rows i row

-- the same round, spelled another way
pub rounds_at : (h ws : List ℕ) {v : List ℕ} {n k : ℕ} → n ≡ k → v ≡ rounds h ws n → v ≡ rounds h ws k
rounds_at h ws e held = rw (← e) held

-- the words of a list of eight
pub eight : (xs : List ℕ) → length xs ≡ 8 →
    slice_index xs 0 ∷ slice_index xs 1 ∷ slice_index xs 2 ∷ slice_index xs 3
    ∷ slice_index xs 4 ∷ slice_index xs 5 ∷ slice_index xs 6 ∷ slice_index xs 7 ∷ [] ≡ xs
eight (a ∷ b ∷ c ∷ d ∷ e ∷ f ∷ g ∷ h ∷ []) long = refl
eight [] long = absurd (omega arith)
eight (a ∷ []) long = absurd (omega arith)
eight (a ∷ b ∷ []) long = absurd (omega arith)
eight (a ∷ b ∷ c ∷ []) long = absurd (omega arith)
eight (a ∷ b ∷ c ∷ d ∷ []) long = absurd (omega arith)
eight (a ∷ b ∷ c ∷ d ∷ e ∷ []) long = absurd (omega arith)
eight (a ∷ b ∷ c ∷ d ∷ e ∷ f ∷ []) long = absurd (omega arith)
eight (a ∷ b ∷ c ∷ d ∷ e ∷ f ∷ g ∷ []) long = absurd (omega arith)
eight (a ∷ b ∷ c ∷ d ∷ e ∷ f ∷ g ∷ h ∷ i ∷ xs) long = absurd (omega arith)

-- a word of a vector
pub below_word : (xs : List ℕ) {n l : ℕ} → length xs ≡ n → Each1 (Fits w32) xs → l < n → slice_index xs l < 2 ^ 32
below_word xs {n} {l} long fit lt = (Each1-get_or (Fits w32) xs l 0 (omega arith) fit).fits
