-- The lines of the first doubts.
use Rattle.std.proofs.Common.{◌≡◌, ◌++◌, take}
use Rattle.std.specs.Prelude.{string_bytes}
use Rattle.std.specs.List.{flat_map}
use Rattle.scrub_compare.specs.Compare.{firm_line}
use Rattle.scrub_compare.proofs.firm.append_doubts.Given as goal

abbrev pub invariant-loop-doubt : goal.invariant-loop-doubt
invariant-loop-doubt l = string_bytes l.text ≡ string_bytes l.fn.text ++ flat_map (firm_line l.image) (take l.doubt-index l.doubts)
