-- A byte that changed would have a line, and a chunk rests on its bytes.
use Rattle.scrub_compare.proofs.Chunks.{keeps_chunks}
use Rattle.scrub_compare.proofs.Overwritten.{keeps_bytes}
use Rattle.scrub_compare.proofs.laws.nothing_was_overwritten.Goals as goal

pub returns-clause-bytes : goal.returns-clause-bytes
returns-clause-bytes c = keeps_bytes

pub returns-clause-chunks : goal.returns-clause-chunks
returns-clause-chunks c = keeps_chunks
