use Rattle.std.proofs.Common.{refl}
use Rattle.scrub_map.proofs.MapLines.{no_state, read_state}
use Rattle.scrub_map.proofs.reading.Reading.add_state.Goals as goal

pub returns-then-not-is_state-clause-bad : goal.returns-then-not-is_state-clause-bad
returns-then-not-is_state-clause-bad c =
    (refl, λ lines line e. no_state lines line _ _ e c.requires.said c.requires.first c.if-not-is_state.ensures)

pub returns-clause-read : goal.returns-clause-read
returns-clause-read c = λ lines line e.
    read_state lines line _ _ _ e c.requires.said c.requires.first c.if-not-is_state.ensures refl
