-- A run has one digest, one head and one list of entries.
use Rattle.std.proofs.Common.{length}
use Rattle.std.specs.List.{flat_map}
use Rattle.scrub_run.specs.steps.Parts.{entry_bytes}
use Rattle.scrub_run.proofs.Runs.{body_of_run, entries_of_run}
use Rattle.scrub_run.proofs.reading.read_run.Goals as goal

pub returns-in_default-split_head-clause-not_a_run : goal.returns-in_default-split_head-clause-not_a_run
returns-in_default-split_head-clause-not_a_run c = λ _ entries h.
    c.in_default-split_head.ensures.none (length entries) (flat_map entry_bytes entries) (body_of_run c.args.payload.now c.in-Some.body.now entries c.in-Some.ensures.found h)

pub returns-in-Ok-None-clause-not_a_run : goal.returns-in-Ok-None-clause-not_a_run
returns-in-Ok-None-clause-not_a_run c = λ _ entries h.
    let parts =
    entries_of_run c.args.payload.now c.in-Some.body.now c.in-Some-split_head.entries.now entries c.in-Some-split_head.count
    c.in-Some.ensures.found c.in-Some-split_head.ensures.found c.in-Some-split_head.ensures.fits h in
    (rw c.in-Ok-None.field-0-is at c.in-Ok-None.ensures.none) entries parts.0
    h.entries_of_run.each h.entries_of_run.rising parts.1
