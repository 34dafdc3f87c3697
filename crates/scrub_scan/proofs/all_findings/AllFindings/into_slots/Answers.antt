-- The results are of one image, so all are of that of the first one.
use Rattle.scrub_scan.specs.Slots.{held_in}
use Rattle.scrub_scan.proofs.Slots.{all_of_image}
use Rattle.scrub_scan.proofs.all_findings.AllFindings.into_slots.Goals as goal

pub returns-clause-images : goal.returns-clause-images
returns-clause-images g c = λ image first.
    all_of_image (held_in c.self.inside.slots.items) c.self.invariant.2.0 image c.self.invariant.2.1 (rw (← c.self.view_is) at first)
