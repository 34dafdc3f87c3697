-- Several messages side by side: each word of their states, or of their blocks, is a vector with one lane for each message.
use Rattle.std.specs.Prelude.{◌≡◌, ◌<◌, ◌≤◌, ◌+◌, ◌*◌, ℕ, List, [], ◌∷◌, length, map, take, drop, slice_index, slice_index_or}
use Rattle.sha2.specs.Sha256.{digest_bytes, hash_after, initial_hash_256}
use Rattle.sha_lanes.specs.declared.lanes.Lanes.{Lanes}
use Rattle.sha_lanes.specs.declared.lanes.Span.{Span}

-- how many lanes there are: the code's LANES
abbrev pub lane_count : ℕ
lane_count = 4

-- the word of lane l in vector i
abbrev pub word_in : ℕ → List (List ℕ) → ℕ → ℕ
word_in l rows i = slice_index (slice_index_or rows i []) l

-- the words of lane l in a list of vectors
abbrev pub column : ℕ → List (List ℕ) → List ℕ
column l rows = map (λ row. slice_index row l) rows

-- the state of lane l: its words in eight vectors
abbrev pub lane : ℕ → List (List ℕ) → List ℕ
lane l rows =
    word_in l rows 0 ∷ word_in l rows 1 ∷ word_in l rows 2 ∷ word_in l rows 3
    ∷ word_in l rows 4 ∷ word_in l rows 5 ∷ word_in l rows 6 ∷ word_in l rows 7 ∷ []

-- the 64 bytes from a place on
abbrev pub block_at : List ℕ → ℕ → List ℕ
block_at bytes place = take 64 (drop place bytes)

-- the hash value of the blocks of a span, from the initial one
abbrev pub hash_of : List ℕ → Span → List ℕ
hash_of bytes span = hash_after initial_hash_256 (drop span.start bytes) span.blocks

-- its bytes
abbrev pub digest_of : List ℕ → Span → List ℕ
digest_of bytes span = digest_bytes (hash_of bytes span) 8

-- the blocks of a span are within the bytes
abbrev pub IsWithin : List ℕ → Span → Type 0
IsWithin bytes span = span.start + 64 * span.blocks ≤ length bytes

-- lane l has hashed some blocks of a span, from its first on; it goes on after them, and has this many left
pub record Carries (bytes : List ℕ) (lanes : Lanes) (l : ℕ) (span : Span) : Type 0 where
  pub done : ℕ
  pub here : slice_index lanes.place l ≡ span.start + 64 * done
  pub rest : done + slice_index lanes.left l ≡ span.blocks
  pub value : lane l lanes.state ≡ hash_after initial_hash_256 (drop span.start bytes) done

-- a lane has one of the spans, or nothing
pub record AreLanes (bytes : List ℕ) (spans : List Span) (lanes : Lanes) : Type 0 where
  pub carried : (l : ℕ) (span : Span) → l < lane_count → slice_index lanes.index l < length spans →
      slice_index_or spans (slice_index lanes.index l) span ≡ span → Carries bytes lanes l span
  pub idle : (l : ℕ) → l < lane_count → length spans ≤ slice_index lanes.index l → slice_index lanes.left l ≡ 0
