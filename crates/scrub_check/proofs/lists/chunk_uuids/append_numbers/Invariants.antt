use Rattle.std.proofs.Common.{take}
use Rattle.std.specs.List.{filter_map}
use Rattle.scrub_check.specs.Chunks.{place_of}
use Rattle.scrub_check.specs.steps.ChunkUuids.{AddsNumbers}
use Rattle.scrub_check.proofs.lists.chunk_uuids.append_numbers.Given as goal

-- the numbers of the chunks among the items so far are added
abbrev pub invariant-loop-item : goal.invariant-loop-item
invariant-loop-item l = AddsNumbers l.fn.numbers.items (filter_map (place_of l.extent) (take l.item-index l.items)) l.numbers.items
