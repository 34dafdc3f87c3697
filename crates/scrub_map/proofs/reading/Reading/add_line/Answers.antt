use Rattle.std.proofs.Common.{◌∙◌, ap, sym}
use Rattle.scrub_map.specs.Fields.{fields_of}
use Rattle.scrub_map.specs.Lines.{says_nothing}
use Rattle.scrub_map.proofs.MapLines.{read_silent}
use Rattle.scrub_map.proofs.reading.Reading.add_line.Goals as goal

pub returns-then-is_silent-clause-read : goal.returns-then-is_silent-clause-read
returns-then-is_silent-clause-read c = λ lines line e.
    read_silent lines line _ _ e
    (sym (ap (λ text. says_nothing (fields_of text)) c.without_carriage_return-line.ensures) ∙ sym c.if-is_silent.ensures)
