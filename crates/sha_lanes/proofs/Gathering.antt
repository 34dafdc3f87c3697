-- The messages of a batch as its bytes grow or are cut off, and their digests.
use Rattle.std.proofs.Common.{◌≡◌, ◌≤◌, ◌+◌, ◌-◌, ◌*◌, ◌/◌, ◌%◌, ◌^◌, ◌++◌, ◌∷◌, [], ℕ, suc, List, All, length, map, drop, take, replicate, ◌∙◌, ap, ap₂, sym, refl, arith, append_assoc, append-nil, length-append}
use Rattle.std.specs.Int.{w64, to_be_bytes}
use Rattle.std.proofs.lemmas.List.{drop-append-le, take-append-drop, take-take, take_at, drop-take, length-replicate}
use Rattle.sha2.specs.Sha256.{hash_after, initial_hash_256, digest_bytes, padded_message, padding, sha256}
use Rattle.sha2.proofs.Absorbing256.{hash_after-append}
use Rattle.sha_lanes.specs.declared.batch.Batch.{Batch}
use Rattle.sha_lanes.specs.declared.lanes.Span.{Span}
use Rattle.sha_lanes.specs.Lanes.{digest_of}
use Rattle.sha_lanes.specs.Gathered.{Gathers, IsMessage, AreMessages, message_of}

All_first : (P : Span → Type 0) (span : Span) (spans : List Span) → All P (span ∷ spans) → P span
All_first P span spans all = all 0 span (omega arith)

All_rest : (P : Span → Type 0) (span : Span) (spans : List Span) → All P (span ∷ spans) → All P spans
All_rest P span spans all = λ k d lt. all (suc k) d (omega arith)

IsMessage_grown : (bytes more : List ℕ) (span : Span) (message : List ℕ) → span.start ≤ length bytes
    → IsMessage bytes span message → IsMessage (bytes ++ more) span message
IsMessage_grown bytes more span message within is = record {
  rest = is.rest ++ more;
  padded = drop-append-le span.start bytes more within ∙ ap (λ (xs : List ℕ). xs ++ more) is.padded
      ∙ append_assoc (padded_message message) is.rest more;
  whole = is.whole;
  long = is.long;
}

-- bytes that are added change no message
pub grown : (bytes more : List ℕ) (begun : ℕ) (spans : List Span) (messages : List (List ℕ))
    → begun ≤ length bytes → All (λ s. s.start + 64 * s.blocks ≤ begun) spans
    → AreMessages bytes spans messages → AreMessages (bytes ++ more) spans messages
grown bytes more begun [] [] le within are = are
grown bytes more begun [] (message ∷ messages) le within are = are
grown bytes more begun (span ∷ spans) [] le within are = are
grown bytes more begun (span ∷ spans) (message ∷ messages) le within are = (
  IsMessage_grown bytes more span message (omega (arith, All_first (λ s. s.start + 64 * s.blocks ≤ begun) span spans within)) are.0,
  grown bytes more begun spans messages le (All_rest (λ s. s.start + 64 * s.blocks ≤ begun) span spans within) are.1,
)

-- a batch with more bytes of the message that has begun
pub begun_more : (batch other : Batch) (more : List ℕ) (messages : List (List ℕ)) (next : List ℕ)
    → other.bytes.items ≡ batch.bytes.items ++ more → other.spans.items ≡ batch.spans.items → other.begun ≡ batch.begun
    → Gathers batch messages next → Gathers other messages (next ++ more)
begun_more batch other more messages next bytes spans begun held = record {
  messages_are = rw (bytes, spans)
      (grown batch.bytes.items more batch.begun batch.spans.items messages batch.begun_within batch.spans_within held.messages_are);
  next_is = rw (bytes, begun)
      (drop-append-le batch.begun batch.bytes.items more batch.begun_within ∙ ap (λ (xs : List ℕ). xs ++ more) held.next_is);
}

IsMessage_cut : (bytes : List ℕ) (begun : ℕ) (span : Span) (message : List ℕ) → span.start + 64 * span.blocks ≤ begun
    → IsMessage bytes span message → IsMessage (take begun bytes) span message
IsMessage_cut bytes begun span message within is =
    let n : ℕ = 64 * span.blocks in
    let k : ℕ = begun - span.start in
    let e : begun ≡ span.start + k = omega arith in
    let kept : drop span.start (take begun bytes) ≡ take k (drop span.start bytes) =
    ap (λ (i : ℕ). drop span.start (take i bytes)) e ∙ drop-take span.start k bytes in
    let front : take n (drop span.start (take begun bytes)) ≡ padded_message message =
    ap (take n) kept ∙ take-take n k (drop span.start bytes) (omega arith) ∙ ap (take n) is.padded
    ∙ take_at (padded_message message) is.rest n (sym is.whole) in
    record {
      rest = drop n (drop span.start (take begun bytes));
      padded = sym (take-append-drop n (drop span.start (take begun bytes)))
          ∙ ap (λ (xs : List ℕ). xs ++ drop n (drop span.start (take begun bytes))) front;
      whole = is.whole;
      long = is.long;
    }

-- nor do bytes that are cut off after the messages
pub cut : (bytes : List ℕ) (begun : ℕ) (spans : List Span) (messages : List (List ℕ))
    → All (λ s. s.start + 64 * s.blocks ≤ begun) spans
    → AreMessages bytes spans messages → AreMessages (take begun bytes) spans messages
cut bytes begun [] [] within are = are
cut bytes begun [] (message ∷ messages) within are = are
cut bytes begun (span ∷ spans) [] within are = are
cut bytes begun (span ∷ spans) (message ∷ messages) within are = (
  IsMessage_cut bytes begun span message (All_first (λ s. s.start + 64 * s.blocks ≤ begun) span spans within) are.0,
  cut bytes begun spans messages (All_rest (λ s. s.start + 64 * s.blocks ≤ begun) span spans within) are.1,
)

-- There are as many spans as messages.
pub same_count : (bytes : List ℕ) (spans : List Span) (messages : List (List ℕ)) → AreMessages bytes spans messages
    → length spans ≡ length messages
same_count bytes [] [] are = refl
same_count bytes [] (message ∷ messages) are = absurd are
same_count bytes (span ∷ spans) [] are = absurd are
same_count bytes (span ∷ spans) (message ∷ messages) are = let more = same_count bytes spans messages are.1 in omega arith

-- one more message
pub one_more : (bytes : List ℕ) (spans : List Span) (messages : List (List ℕ)) (span : Span) (message : List ℕ)
    → IsMessage bytes span message → AreMessages bytes spans messages
    → AreMessages bytes (spans ++ span ∷ []) (messages ++ message ∷ [])
one_more bytes [] [] span message is are = (is, are)
one_more bytes [] (m ∷ messages) span message is are = absurd are
one_more bytes (s ∷ spans) [] span message is are = absurd are
one_more bytes (s ∷ spans) (m ∷ messages) span message is are = (are.0, one_more bytes spans messages span message is are.1)

-- a padded message is whole blocks
whole_blocks : (message : List ℕ) → length (padded_message message) % 64 ≡ 0
whole_blocks message =
    let n = length message in
    let bits : length (to_be_bytes w64 (n * 8 % 2 ^ 64)) ≡ 8 = refl in
    let zeros = length-replicate {A = ℕ} ((119 - n % 64) % 64) 0 in
    let tail = length-append (replicate ((119 - n % 64) % 64) 0) (to_be_bytes w64 (n * 8 % 2 ^ 64)) in
    let all = length-append message (padding n) in
    omega (arith, bits, zeros, tail, all)

-- the message that the bytes from `begun` on are, with its padding
pub ended : (bytes message : List ℕ) (begun : ℕ) (span : Span) → drop begun bytes ≡ padded_message message
    → span.start ≡ begun → span.blocks ≡ (length (drop begun bytes)) / 64 → span.length ≡ length message
    → IsMessage bytes span message
ended bytes message begun span is start blocks size =
    let long : length (drop begun bytes) ≡ length (padded_message message) = ap length is in
    let whole = whole_blocks message in
    record {
      rest = [];
      padded = ap (λ (n : ℕ). drop n bytes) start ∙ is ∙ sym (append-nil (padded_message message));
      whole = omega (arith, long, whole, blocks);
      long = size;
    }

digest_is : (bytes : List ℕ) (span : Span) (message : List ℕ) → IsMessage bytes span message → digest_of bytes span ≡ sha256 message
unfolding sha256
digest_is bytes span message is =
    let whole = is.whole in
    let p = padded_message message in
    let count : span.blocks ≡ length p / 64 = omega arith in
    let hash : hash_after initial_hash_256 (drop span.start bytes) span.blocks ≡ hash_after initial_hash_256 p (length p / 64) =
    ap (λ (xs : List ℕ). hash_after initial_hash_256 xs span.blocks) is.padded
    ∙ hash_after-append initial_hash_256 p is.rest span.blocks (omega arith)
    ∙ ap (hash_after initial_hash_256 p) count in
    ap (λ (h : List ℕ). digest_bytes h 8) hash

-- the digests of the spans are those of the messages
pub digests_are : (bytes : List ℕ) (spans : List Span) (messages : List (List ℕ)) → AreMessages bytes spans messages
    → map (digest_of bytes) spans ≡ map sha256 messages
digests_are bytes [] [] are = refl
digests_are bytes [] (message ∷ messages) are = absurd are
digests_are bytes (span ∷ spans) [] are = absurd are
digests_are bytes (span ∷ spans) (message ∷ messages) are =
    ap₂ (λ x xs. x ∷ xs) (digest_is bytes span message are.0) (digests_are bytes spans messages are.1)

-- the message of a span is that message
message_is : (bytes : List ℕ) (span : Span) (message : List ℕ) → IsMessage bytes span message → message_of bytes span ≡ message
message_is bytes span message is =
    ap (take span.length) (is.padded ∙ append_assoc message (padding (length message)) is.rest)
    ∙ take_at message (padding (length message) ++ is.rest) span.length (sym is.long)

-- so its digest is the message's
pub digests_alone : (bytes : List ℕ) (spans : List Span) (messages : List (List ℕ)) → AreMessages bytes spans messages
    → map (λ s. sha256 (message_of bytes s)) spans ≡ map sha256 messages
digests_alone bytes [] [] are = refl
digests_alone bytes [] (message ∷ messages) are = absurd are
digests_alone bytes (span ∷ spans) [] are = absurd are
digests_alone bytes (span ∷ spans) (message ∷ messages) are =
    ap₂ (λ x xs. x ∷ xs) (ap sha256 (message_is bytes span message are.0)) (digests_alone bytes spans messages are.1)
