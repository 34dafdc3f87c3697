-- The lengths at the places so far, and their sum.
use Rattle.std.proofs.Common.{◌≡◌, ◌≤◌, ◌*◌, ◌^◌, ℕ, List}
use Rattle.std.specs.List.{sum}
use Rattle.scrub_loose.specs.Anywhere.{AreClaimedLengths}
use Rattle.scrub_loose.specs.steps.Held.{extent_held}
use Rattle.scrub_loose.proofs.claims.claimed_bytes.Given as goal

abbrev pub invariant-loop-place : goal.invariant-loop-place
invariant-loop-place l =
    ((lengths : List ℕ) × AreClaimedLengths (extent_held l.extent) l.place lengths × (l.all ≡ sum lengths)) × (l.all ≤ l.place * 2 ^ 26)
