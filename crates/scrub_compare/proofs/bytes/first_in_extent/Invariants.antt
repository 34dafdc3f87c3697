-- No byte of the pages before is refused.
use Rattle.std.proofs.Common.{◌≡◌, ◌<◌, ◌≤◌, ◌*◌, ◌/◌, ℕ, true}
use Rattle.scrub_compare.specs.steps.Changes.{is_refused_at}
use Rattle.scrub_compare.proofs.bytes.first_in_extent.Given as goal

abbrev pub invariant-loop-page : goal.invariant-loop-page
invariant-loop-page l = (p : ℕ) → 0 ≤ p → p < l.page * l.fn.geometry.page →
    ¬ (is_refused_at l.old l.new l.allowed.room l.allowed.to (p / l.fn.geometry.page) p ≡ true)
