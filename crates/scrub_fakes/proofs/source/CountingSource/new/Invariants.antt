-- A count for each extent so far.
use Rattle.std.proofs.Common.{◌≡◌, length}
use Rattle.scrub_fakes.proofs.source.CountingSource.new.Given as goal

abbrev pub invariant-loop : goal.invariant-loop
invariant-loop l = length l.asked.items ≡ l.counter
