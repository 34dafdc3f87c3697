-- The lines of the extents before this one.
use Rattle.std.specs.Prelude.{string_bytes}
use Rattle.scrub_found.specs.Judged.{Beside, found_in}
use Rattle.scrub_compare.proofs.ExtentLines.{AreLinesTo}
use Rattle.scrub_compare.proofs.extents.append_extents.Given as goal

abbrev pub invariant-loop-extent : goal.invariant-loop-extent
invariant-loop-extent g l = (b c : Beside) →
    AreLinesTo (g.D.PageSource.image l.before) (g.E.PageSource.image l.after) l.resets (found_in l.found_before b) (found_in l.found_after c) (string_bytes l.fn.text) (string_bytes l.text) l.extent
