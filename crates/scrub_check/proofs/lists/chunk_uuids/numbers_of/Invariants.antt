use Rattle.std.proofs.Common.{List, ℕ, []}
use Rattle.scrub_check.specs.Chunks.{chunks}
use Rattle.scrub_check.specs.steps.ChunkUuids.{AddsNumbers}
use Rattle.scrub_check.proofs.lists.chunk_uuids.numbers_of.Given as goal

-- once the numbers of the chunks of the extents that are left are added, those of all are there
abbrev pub invariant-loop-one : goal.invariant-loop-one
invariant-loop-one g l =
    (after : List ℕ) → AddsNumbers l.numbers.items (chunks l.one-iterator) after → AddsNumbers [] (chunks l.all.extents) after
