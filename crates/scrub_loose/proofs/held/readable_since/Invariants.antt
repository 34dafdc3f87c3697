-- The runs that end with the pages so far, and the one that goes on.
use Rattle.std.proofs.Common.{◌≡◌, ℕ, ◌<◌, length, get_or}
use Rattle.scrub_loose.specs.steps.Held.{IsSince}
use Rattle.scrub_loose.proofs.BytesInMemory.{IsOpen}
use Rattle.scrub_loose.proofs.held.readable_since.Given as goal

abbrev pub invariant-loop-page : goal.invariant-loop-page
invariant-loop-page l = record {
  count : length l.since.items ≡ l.page;
  each : (q : ℕ) → q < l.page → IsSince l.readable q (get_or l.since.items q 0);
  run : IsOpen l.readable l.page l.first;
}
