-- Which messages a batch holds.
use Rattle.std.specs.Prelude.{◌≡◌, ◌*◌, ◌++◌, ℕ, List, [], ◌∷◌, ⊤, length, drop, take}
use Rattle.sha2.specs.Sha256.{padded_message}
use Rattle.sha_lanes.specs.declared.batch.Batch.{Batch}
use Rattle.sha_lanes.specs.declared.lanes.Span.{Span}

-- the message of a span
abbrev pub message_of : List ℕ → Span → List ℕ
message_of bytes span = take span.length (drop span.start bytes)

-- the blocks of a span are a message with its padding
pub record IsMessage (bytes : List ℕ) (span : Span) (message : List ℕ) : Type 0 where
  pub rest : List ℕ
  pub padded : drop span.start bytes ≡ padded_message message ++ rest
  pub whole : 64 * span.blocks ≡ length (padded_message message)
  pub long : span.length ≡ length message

-- each span is one of the messages, in their order
abbrev pub AreMessages : List ℕ → List Span → List (List ℕ) → Type 0
AreMessages bytes [] [] = ⊤
AreMessages bytes [] (message ∷ messages) = ⊥
AreMessages bytes (span ∷ spans) [] = ⊥
AreMessages bytes (span ∷ spans) (message ∷ messages) = IsMessage bytes span message × AreMessages bytes spans messages

-- the batch holds these messages, and this beginning of the next one
pub record Gathers (batch : Batch) (messages : List (List ℕ)) (next : List ℕ) : Type 0 where
  pub messages_are : AreMessages batch.bytes.items batch.spans.items messages
  pub next_is : drop batch.begun batch.bytes.items ≡ next
