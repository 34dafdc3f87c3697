-- Digests are bytes, so that their texts are those of one digest.
use Rattle.std.proofs.Common.{◌≡◌, ◌<◌, ◌∷◌, [], ℕ, zero, suc, List, length, arith, sym, ◌∙◌, ap, subst, inl, inr}
use Rattle.std.specs.Prelude.{slice_index}
use Rattle.std.specs.Int.{to_be_bytes, w32}
use Rattle.std.specs.List.{All}
use Rattle.std.proofs.lemmas.Bool.{cases_lt}
use Rattle.std.proofs.lemmas.List.{get_or_past}
use Rattle.std.proofs.lemmas.List.Elements.{All-append, All-cons, All-nil}
use Rattle.hex.specs.Hex.{IsBytes, decode_of, encode_lower}
use Rattle.hex.proofs.HexLemmas.{decode_of-encode_lower}
use Rattle.sha2.specs.Sha256.{digest_bytes, final_hash, initial_hash_256, sha256}

abbrev IsByte : ℕ → Type 0
IsByte b = b < 256

-- the bytes of a number of 32 bits
number_bytes : (n : ℕ) → All IsByte (to_be_bytes w32 n)
number_bytes n = four _ _ _ _ (omega arith) (omega arith) (omega arith) (omega arith)
  where
    four : (a b c d : ℕ) → a < 256 → b < 256 → c < 256 → d < 256 → All IsByte (a ∷ b ∷ c ∷ d ∷ [])
    four a b c d ha hb hc hd =
        All-cons IsByte a (b ∷ c ∷ d ∷ []) ha (All-cons IsByte b (c ∷ d ∷ []) hb (All-cons IsByte c (d ∷ []) hc (All-cons IsByte d [] hd (All-nil IsByte))))

words_bytes : (h : List ℕ) (n : ℕ) → All IsByte (digest_bytes h n)
unfolding digest_bytes
words_bytes h zero = All-nil IsByte
words_bytes h (suc n) = All-append IsByte (digest_bytes h n) (to_be_bytes w32 (slice_index h n)) (words_bytes h n) (number_bytes (slice_index h n))

digest_is_bytes : (m : List ℕ) → IsBytes (sha256 m)
unfolding sha256
digest_is_bytes m i = elim (cases_lt i (length (sha256 m))) [
  | inl below ↦ words_bytes (final_hash initial_hash_256 m) 8 i 0 below
  | inr past ↦ subst IsByte (sym (get_or_past (sha256 m) i 0 past)) (omega arith)
]

-- Two digests with the same text are the same.
pub same_digest : (a b : List ℕ) → encode_lower (sha256 a) ≡ encode_lower (sha256 b) → sha256 a ≡ sha256 b
same_digest a b e =
    let both = sym (decode_of-encode_lower (sha256 a) (digest_is_bytes a)) ∙ ap decode_of e ∙ decode_of-encode_lower (sha256 b) (digest_is_bytes b) in
    cc (both)
