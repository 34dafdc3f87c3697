use Rattle.std.proofs.Common.{◌≡◌, replicate, None}
use Rattle.scrub_book.proofs.book.empty_slots.Given as goal

-- this many slots so far, all empty
abbrev pub invariant-loop : goal.invariant-loop
invariant-loop g l = l.slots.items ≡ replicate l.counter None
