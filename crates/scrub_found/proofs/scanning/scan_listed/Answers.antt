-- The plan is that of a superblock that lists the runs.
use Rattle.std.proofs.Common.{Some, [], sym, ◌∙◌}
use Rattle.scrub_super.specs.GivenRuns.{plan_listing}
use Rattle.scrub_found.proofs.scanning.scan_listed.Goals as goal

pub returns-clause-scan : goal.returns-clause-scan
returns-clause-scan g c =
    c.scan_planned.ensures.scan (Some c.args.runs.now) [] c.in_ok-chosen.ensures
    (c.in_ok-plan.ensures
    ∙ (λ i. plan_listing ((c.geometry.ensures ∙ sym c.in_ok-chosen.ensures.geometry) i) (c.in_ok-runs.ensures.items i)))

pub returns-clause-takings : goal.returns-clause-takings
returns-clause-takings g c =
    c.scan_planned.ensures.takings (Some c.args.runs.now) [] c.in_ok-chosen.ensures
    (c.in_ok-plan.ensures
    ∙ (λ i. plan_listing ((c.geometry.ensures ∙ sym c.in_ok-chosen.ensures.geometry) i) (c.in_ok-runs.ensures.items i)))
