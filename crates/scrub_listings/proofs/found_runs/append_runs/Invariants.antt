-- The lines of the first runs.
use Rattle.std.proofs.Common.{◌≡◌, ◌++◌, take}
use Rattle.std.specs.Prelude.{string_bytes}
use Rattle.std.specs.List.{flat_map}
use Rattle.scrub_listings.specs.FoundRuns.{run_line}
use Rattle.scrub_listings.proofs.found_runs.append_runs.Given as goal

abbrev pub invariant-loop-one : goal.invariant-loop-one
invariant-loop-one l = string_bytes l.text ≡ string_bytes l.fn.text ++ flat_map run_line (take l.one-index l.listed)
