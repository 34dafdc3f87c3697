-- The unreadable pages so far.
use Rattle.std.proofs.Common.{◌≡◌, filter, not, false, get_or}
use Rattle.std.specs.List.{range_with_len}
use Rattle.scrub_disk.proofs.buffered_extent.unreadable_pages.Given as goal

abbrev pub invariant-loop-page : goal.invariant-loop-page
invariant-loop-page l = l.unreadable.items ≡ filter (λ g. not (get_or l.readable g false)) (range_with_len 0 l.page)
