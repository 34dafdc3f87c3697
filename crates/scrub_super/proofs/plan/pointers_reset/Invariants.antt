use Rattle.std.proofs.Common.{◌≡◌, map, take}
use Rattle.std.specs.List.{enumerate_from}
use Rattle.scrub_super.specs.Reset.{pointer_reset}
use Rattle.scrub_super.proofs.plan.pointers_reset.Given as goal

-- those of the first extents
abbrev pub invariant-loop-i : goal.invariant-loop-i
invariant-loop-i l = l.reset.items ≡ map (pointer_reset l.extents) (take l.i (enumerate_from 0 l.pointers))
