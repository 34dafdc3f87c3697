-- What was read from the parts are the record's contents.
use Rattle.std.proofs.Common.{arith, ◌∙◌}
use Rattle.scrub_super.proofs.Found.{contents_read}
use Rattle.scrub_super.proofs.record.read_record.Goals as goal

pub returns-clause-found : goal.returns-clause-found
returns-clause-found c =
    let parts = c.parts_of-parts.ensures in
    rw c.of.ensures
    (contents_read c.in-Some.ensures.found
    (omega (arith, c.in_ok-pointers.ensures.count, c.extents.ensures)) c.in_ok-pointers.ensures.fit
    (c.in_ok-pointers.ensures.spelled ∙ parts.pointers)
    c.in_ok-retired.ensures.count c.in_ok-retired.ensures.fit (c.in_ok-retired.ensures.spelled ∙ parts.retired)
    c.in_ok-runs.ensures.count c.in_ok-runs.ensures.fit (c.in_ok-runs.ensures.spelled ∙ parts.runs))
