-- The first runs have their rows.
use Rattle.std.proofs.Common.{take}
use Rattle.scrub_found.specs.Judged.{AreRowsOf}
use Rattle.scrub_found.proofs.runs.run_rows.Given as goal

abbrev pub invariant-loop-i : goal.invariant-loop-i
invariant-loop-i l = AreRowsOf (take l.i l.locators) (record { runs = take l.i l.runs; states = take l.i l.states }) l.rows.items
