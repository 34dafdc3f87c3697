-- The sum over the first candidates, each number below 2^64.
use Rattle.std.proofs.Common.{◌≡◌, ◌≤◌, ◌*◌, ◌^◌, take}
use Rattle.std.specs.List.{sum_by}
use Rattle.scrub_listings.proofs.summary.freed_by.Given as goal

abbrev pub invariant-loop-candidate : goal.invariant-loop-candidate
invariant-loop-candidate l =
    (l.total ≡ sum_by (λ a. a.free) (take l.candidate-index l.candidates)) × (l.total ≤ l.candidate-index * 2 ^ 64)
