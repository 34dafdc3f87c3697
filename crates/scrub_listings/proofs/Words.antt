-- Texts as lines of words: a word has no space and no line feed, so a text shows its lines, and each line its words.
use Rattle.std.proofs.Common.{◌≡◌, ◌<◌, ◌+◌, ◌-◌, ◌/◌, ◌%◌, ◌++◌, ◌∷◌, ◌==◌, ◌&&◌, [], ℕ, zero, suc, Bool, true, false, not, nat_lt, List, map, arith, refl, sym, ◌∙◌, ap, append-nil, append_assoc, inl, inr, if◌then◌else◌}
use Rattle.std.specs.Prelude.{slice_index}
use Rattle.std.specs.Fmt.{decimal, digit_glyph, digits, digits_onto}
use Rattle.std.specs.List.{All, flat_map, list_all, slice_split}
use Rattle.std.proofs.lemmas.Bool.{cases_lt, false≢true, ne_eqb}
use Rattle.std.proofs.lemmas.List.{get_or_past}
use Rattle.std.proofs.lemmas.List.Elements.{All-append, All-cons, All-weaker}
use Rattle.std.proofs.lemmas.List.Folds.{list_all-append}
use Rattle.std.proofs.lemmas.List.Splits.{slice_split_at, slice_split_none}
use Rattle.std.proofs.lemmas.List.Sums.{AllPass-from_list_all}
use Rattle.uuid.specs.Text.{by_index, digit_place, hex_digit, hyphen, hyphenated_text, is_hyphen_place, lower, nibble}
use Rattle.hex.specs.Hex.{encode_lower, encode_with, lower_digits}

-- ---- words

-- the byte is neither a line feed nor a space
abbrev pub is_word_byte : ℕ → Bool
is_word_byte b = not (b == 10) && not (b == 32)

abbrev pub IsWord : List ℕ → Type 0
IsWord u = list_all is_word_byte u ≡ true

abbrev pub AreWords : List (List ℕ) → Type 0
AreWords [] = Unit {0}
AreWords (w ∷ ws) = IsWord w × AreWords ws

above_space : (b : ℕ) → 32 < b → is_word_byte b ≡ true
above_space b high = λ i. not (ne_eqb b 10 (λ is. omega (arith, high, is)) i) && not (ne_eqb b 32 (λ is. omega (arith, high, is)) i)

more_bytes : (b : ℕ) (u : List ℕ) → is_word_byte b ≡ true → IsWord u → IsWord (b ∷ u)
more_bytes b u first rest = λ i. first i && rest i

-- Two words with nothing between are one.
pub joined : (u v : List ℕ) → IsWord u → IsWord v → IsWord (u ++ v)
joined u v hu hv = list_all-append is_word_byte u v ∙ (λ i. hu i && hv i)

-- A number in decimal is a word.
pub decimal_word : (n : ℕ) → IsWord (decimal n)
unfolding digits
decimal_word n = onto 64 n [] refl
  where
    glyph : (b : Bool) (d : ℕ) → is_word_byte (if b then 48 + d else 87 + d) ≡ true
    glyph true d = above_space (48 + d) (omega arith)
    glyph false d = above_space (87 + d) (omega arith)

    either : (b : Bool) (u v : List ℕ) → IsWord u → IsWord v → IsWord (if b then u else v)
    either true u v hu hv = hu
    either false u v hu hv = hv

    onto : (k m : ℕ) (u : List ℕ) → IsWord u → IsWord (digits_onto k 10 false m u)
    onto zero m u h = h
    onto (suc k) m u h =
        let more = more_bytes (digit_glyph false (m % 10)) u (glyph (nat_lt (m % 10) 10) (m % 10)) h in
        either (m / 10 == 0) _ _ more (onto k (m / 10) (digit_glyph false (m % 10) ∷ u) more)

-- A text of hexadecimal digits is a word.
pub hex_word : (xs : List ℕ) → IsWord (encode_lower xs)
unfolding encode_with
hex_word [] = refl
hex_word (b ∷ xs) =
    more_bytes (slice_index lower_digits (b / 16)) (slice_index lower_digits (b % 16) ∷ encode_lower xs) (digit (b / 16))
    (more_bytes (slice_index lower_digits (b % 16)) (encode_lower xs) (digit (b % 16)) (hex_word xs))
  where
    digit : (i : ℕ) → is_word_byte (slice_index lower_digits i) ≡ true
    digit i = elim (cases_lt i 16) [
      | inl below ↦ AllPass-from_list_all is_word_byte lower_digits refl i 0 below
      | inr past ↦ ap is_word_byte (get_or_past lower_digits i 0 past)
    ]

-- The text of a UUID is a word.
pub uuid_word : (uuid : List ℕ) → IsWord (hyphenated_text lower uuid)
unfolding by_index
uuid_word uuid =
    each 36 (λ k. if is_hyphen_place k then hyphen else hex_digit lower (nibble uuid (digit_place k)))
    (λ k. place (is_hyphen_place k) (nat_lt (nibble uuid (digit_place k)) 10) (nibble uuid (digit_place k)))
  where
    place : (hyphens small : Bool) (d : ℕ) → is_word_byte (if hyphens then hyphen else (if small then 48 + d else lower + d - 10)) ≡ true
    place true small d = refl
    place false true d = above_space (48 + d) (omega arith)
    place false false d = above_space (lower + d - 10) (omega arith)

    each : (n : ℕ) (f : ℕ → ℕ) → ((k : ℕ) → is_word_byte (f k) ≡ true) → IsWord (by_index n f)
    each zero f h = refl
    each (suc n) f h = joined (by_index n f) (f n ∷ []) (each n f h) (more_bytes (f n) [] (h n) refl)

-- ---- lines

-- a word, and each of the others with a space before it
abbrev pub line : List ℕ → List (List ℕ) → List ℕ
line u [] = u
line u (w ∷ ws) = line (u ++ 32 ∷ w) ws

-- The words behind the first make a part of their own.
pub line_is : (u : List ℕ) (ws : List (List ℕ)) → line u ws ≡ u ++ flat_map (λ w. 32 ∷ w) ws
line_is u [] = sym (append-nil u)
line_is u (w ∷ ws) = line_is (u ++ 32 ∷ w) ws ∙ append_assoc u (32 ∷ w) (flat_map (λ v. 32 ∷ v) ws)

line_behind : (u w : List ℕ) (ws : List (List ℕ)) → line u (w ∷ ws) ≡ u ++ 32 ∷ line w ws
line_behind u w ws = line_is u (w ∷ ws) ∙ ap (λ (v : List ℕ). u ++ 32 ∷ v) (sym (line_is w ws))

-- a byte that no word has isn't in this one
free : (c : ℕ) (u : List ℕ) → is_word_byte c ≡ false → IsWord u → All (λ b. (b == c) ≡ false) u
free c u outside word =
    All-weaker (λ b. is_word_byte b ≡ true) (λ b. (b == c) ≡ false)
    (λ b inside. ne_eqb b c (λ is. false≢true (sym outside ∙ ap is_word_byte (sym is) ∙ inside))) u (AllPass-from_list_all is_word_byte u word)

no_feed_in : (u : List ℕ) (ws : List (List ℕ)) → All (λ b. (b == 10) ≡ false) u → AreWords ws → All (λ b. (b == 10) ≡ false) (line u ws)
no_feed_in u [] first words = first
no_feed_in u (w ∷ ws) first words =
    no_feed_in (u ++ 32 ∷ w) ws
    (All-append (λ b. (b == 10) ≡ false) u (32 ∷ w) first (All-cons (λ b. (b == 10) ≡ false) 32 w refl (free 10 w refl words.0))) words.1

-- the words of a line, cut at each space
abbrev pub words_of : List ℕ → List (List ℕ)
words_of text = slice_split (λ b. b == 32) text

-- The words of a line that is made of words are these.
pub words_back : (u : List ℕ) (ws : List (List ℕ)) → AreWords (u ∷ ws) → words_of (line u ws) ≡ u ∷ ws
words_back u [] words = slice_split_none (λ b. b == 32) u (free 32 u refl words.0)
words_back u (w ∷ ws) words =
    ap words_of (line_behind u w ws) ∙ slice_split_at (λ b. b == 32) u 32 (line w ws) (free 32 u refl words.0) refl
    ∙ ap (λ (vs : List (List ℕ)). u ∷ vs) (words_back w ws words.1)

-- the lines of a text as their words
abbrev pub lines_of : List ℕ → List (List (List ℕ))
lines_of text = map words_of (slice_split (λ b. b == 10) text)

-- The first line of a text that begins with one is this one.
pub next_line : (u : List ℕ) (ws : List (List ℕ)) (rest : List ℕ) → AreWords (u ∷ ws) →
    lines_of ((line u ws ++ 10 ∷ []) ++ rest) ≡ (u ∷ ws) ∷ lines_of rest
next_line u ws rest words =
    ap lines_of (append_assoc (line u ws) (10 ∷ []) rest)
    ∙ ap (map words_of) (slice_split_at (λ b. b == 10) (line u ws) 10 rest (no_feed_in u ws (free 10 u refl words.0) words.1) refl)
    ∙ ap (λ (vs : List (List ℕ)). vs ∷ lines_of rest) (words_back u ws words)
