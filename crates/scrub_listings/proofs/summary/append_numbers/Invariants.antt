-- The lines of the first names and numbers.
use Rattle.std.proofs.Common.{◌≡◌, ◌++◌, map, take}
use Rattle.std.specs.Prelude.{string_bytes}
use Rattle.scrub_listings.specs.Summary.{number_lines}
use Rattle.scrub_listings.proofs.summary.append_numbers.Given as goal

abbrev pub invariant-loop-name : goal.invariant-loop-name
invariant-loop-name l =
    string_bytes l.text ≡ string_bytes l.fn.text ++ number_lines (map (λ m. (m.0.now, m.1)) (take l.name-index l.numbers))
