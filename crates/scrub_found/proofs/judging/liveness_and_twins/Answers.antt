-- The index is of the judged locators.
use Rattle.scrub_found.proofs.judging.liveness_and_twins.Goals as goal

pub returns-clause-liveness : goal.returns-clause-liveness
returns-clause-liveness g c =
    c.liveness_and_twins_by.ensures.liveness c.args.judged.now.checked.items (rw c.deref.ensures.value at c.in_ok-locators.ensures)
