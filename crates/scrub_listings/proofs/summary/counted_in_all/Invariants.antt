-- What is counted so far, and what the rest adds, each time below 2^64.
use Rattle.std.proofs.Common.{◌≡◌, ◌≤◌, ◌+◌, ◌*◌, ◌^◌, length}
use Rattle.std.specs.List.{sum_by}
use Rattle.scrub_listings.specs.Summary.{counted_in}
use Rattle.scrub_listings.proofs.summary.counted_in_all.Given as goal

abbrev pub invariant-loop-found : goal.invariant-loop-found
invariant-loop-found g l =
    (l.total + sum_by (counted_in l.counted) l.found-iterator ≡ sum_by (counted_in l.counted) l.all.extents)
    × (l.total + length l.found-iterator * 2 ^ 64 ≤ length l.all.extents * 2 ^ 64)
