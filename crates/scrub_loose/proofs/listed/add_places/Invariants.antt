-- The places so far.
use Rattle.std.proofs.Common.{◌≡◌, map}
use Rattle.scrub_loose.specs.Listed.{ListedValue}
use Rattle.scrub_loose.specs.steps.Held.{extent_held}
use Rattle.scrub_loose.specs.steps.Naming.{AreSortedRuns, AreListedBefore}
use Rattle.scrub_loose.proofs.listed.add_places.Given as goal

abbrev pub invariant-loop-place : goal.invariant-loop-place
invariant-loop-place l = record {
  order : AreSortedRuns l.listed;
  runs : map (λ (v : ListedValue). v.run) l.listed ≡ map (λ (v : ListedValue). v.run) l.fn.listed;
  places : AreListedBefore (extent_held l.inside) l.place l.listed;
}
