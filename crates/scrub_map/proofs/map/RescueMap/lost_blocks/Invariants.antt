use Rattle.std.proofs.Common.{take}
use Rattle.scrub_map.proofs.Lost.{MarksGaps}
use Rattle.scrub_map.proofs.map.RescueMap.lost_blocks.Given as goal

abbrev pub invariant-loop-gap : goal.invariant-loop-gap
invariant-loop-gap l = MarksGaps (take l.gap-index l.gap-items) l.size l.bytes l.count l.marks.items
