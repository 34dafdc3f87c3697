use Rattle.scrub_scan.proofs.Slots.{of_first, of_image, all_found, held_there}
use Rattle.scrub_scan.proofs.all_findings.AllFindings.from_slots.Goals as goal

pub returns-clause-image : goal.returns-clause-image
returns-clause-image g c image are = of_first image c.args.plan.now c.args.slots.items are c.requires.full

pub returns-clause-findings : goal.returns-clause-findings
returns-clause-findings g c image are = all_found image c.args.plan.now c.args.slots.items are c.requires.full

pub invariant_of-result : goal.invariant_of-result
invariant_of-result g c =
    let image = c.requires.slots.0 in
    let are = c.requires.slots.1 in
    let found = returns-clause-findings g c image are in (
      c.requires.full,
      record {
        rising = rw found.extents c.planned.ensures.extents.rising;
        findings = held_there image c.args.plan.now c.args.slots.items are c.requires.full;
      },
      (image, of_image image c.args.plan.now c.args.slots.items are c.requires.full),
    )
