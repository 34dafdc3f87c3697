use Rattle.std.proofs.Common.{◌≡◌, ◌++◌}
use Rattle.scrub_check.specs.Chunks.{chunks}
use Rattle.scrub_check.proofs.lists.chunks.all_chunks.Given as goal

-- the chunks so far, and those of the extents that are left
abbrev pub invariant-loop-one : goal.invariant-loop-one
invariant-loop-one g l = l.chunks.items ++ chunks l.one-iterator ≡ chunks l.all.extents
