use Rattle.std.proofs.Common.{◌≡◌, ◌++◌}
use Rattle.std.specs.List.{filter}
use Rattle.scrub_check.specs.Spares.{frames, is_wanted}
use Rattle.scrub_check.proofs.lists.spares.frames_wanted.Given as goal

-- the wanted chunks so far, and those of the extents that are left
abbrev pub invariant-loop-one : goal.invariant-loop-one
invariant-loop-one g l =
    l.found.items ++ filter (is_wanted l.wanted) (frames l.one-iterator) ≡ filter (is_wanted l.wanted) (frames l.all.extents)
