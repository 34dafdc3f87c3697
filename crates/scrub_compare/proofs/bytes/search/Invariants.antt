-- No byte before this one is refused.
use Rattle.std.proofs.Common.{◌≡◌, ◌<◌, ◌≤◌, ℕ, false}
use Rattle.scrub_compare.specs.steps.Changes.{is_refused_at}
use Rattle.scrub_compare.proofs.bytes.search.Given as goal

abbrev pub invariant-loop-place : goal.invariant-loop-place
invariant-loop-place l = (p : ℕ) → l.start ≤ p → p < l.place → is_refused_at l.old l.new l.allowed.room l.allowed.to l.page p ≡ false
