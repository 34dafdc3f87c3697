use Rattle.scrub_check.specs.steps.LiveAndOrphans.{AreBefore}
use Rattle.scrub_check.proofs.lists.cursor.first_from.Given as goal

-- the places so far are below the start
abbrev pub invariant-loop-at : goal.invariant-loop-at
invariant-loop-at l = AreBefore l.starts l.at l.start.extent l.start.offset
