-- The runs so far, without places.
use Rattle.std.proofs.Common.{◌≡◌, [], map, take}
use Rattle.std.specs.List.{All}
use Rattle.scrub_loose.specs.Listed.{ListedValue}
use Rattle.scrub_loose.proofs.listed.without_places.Given as goal

abbrev pub invariant-loop-run : goal.invariant-loop-run
invariant-loop-run l = record {
  runs : map (λ (v : ListedValue). v.run) l.listed.items ≡ take l.run-index l.runs;
  none : All (λ (v : ListedValue). v.places ≡ []) l.listed.items;
}
