-- This many entries were read, and the rest is still to come.
use Rattle.scrub_run.proofs.Entries.{HasRead}
use Rattle.scrub_run.proofs.reading.read_entries.Given as goal

abbrev pub invariant-loop : goal.invariant-loop
invariant-loop l = HasRead l.bytes l.entries.items l.rest l.counter
