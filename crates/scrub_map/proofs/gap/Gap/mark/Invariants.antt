use Rattle.std.proofs.Common.{◌/◌}
use Rattle.scrub_map.proofs.Lost.{MarksFrom}
use Rattle.scrub_map.proofs.gap.Gap.mark.Given as goal

abbrev pub invariant-loop-number : goal.invariant-loop-number
invariant-loop-number l = MarksFrom (l.fn.self.from / l.size) l.behind l.number l.initial.marks l.marks
