-- The first places.
use Rattle.std.proofs.Common.{◌≡◌, ◌++◌, take}
use Rattle.std.specs.Prelude.{string_bytes}
use Rattle.scrub_listings.specs.FoundRuns.{at_words}
use Rattle.scrub_listings.proofs.found_runs.append_places.Given as goal

abbrev pub invariant-loop-place : goal.invariant-loop-place
invariant-loop-place l = string_bytes l.text ≡ string_bytes l.fn.text ++ at_words (take l.place-index l.places)
