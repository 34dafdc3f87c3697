use Rattle.scrub_map.proofs.TextLines.{ended_line, open_line}
use Rattle.scrub_map.proofs.line.next_line.Goals as goal

pub returns-then-end-text-clause-lines : goal.returns-then-end-text-clause-lines
returns-then-end-text-clause-lines c = ended_line _ _ c.line_length-end.ensures.value c.if-end-text.true

pub returns-else-end-text-clause-lines : goal.returns-else-end-text-clause-lines
returns-else-end-text-clause-lines c = open_line _ _ c.line_length-end.ensures.value c.if-end-text.false c.requires
