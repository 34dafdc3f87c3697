-- The first pieces are in the text.
use Rattle.std.proofs.Common.{◌≡◌, ◌<◌, ◌*◌, ◌++◌, ℕ, List, length, take}
use Rattle.json.specs.Print.{print}
use Rattle.serde_json.specs.Data.{Data}
use Rattle.scrub_report.specs.steps.Tokens.{ArePieces, values_tokens}
use Rattle.scrub_report.proofs.pieces.append_pieces.Given as goal

abbrev pub invariant-loop-piece : goal.invariant-loop-piece
invariant-loop-piece l = (values : List Data) (size : ℕ) → 0 < size → ArePieces values size l.fn.pieces.items →
    l.text.items ≡ l.fn.text.items ++ print (values_tokens (take (length l.yielded * size) values))
