use Rattle.std.proofs.Common.{ap, arith, length}
use Rattle.scrub_scan.proofs.Slots.{slot_count}
use Rattle.scrub_scan.proofs.all_findings.AllFindings.results.Goals as goal

pub returns-clause-few : goal.returns-clause-few
returns-clause-few g c =
    omega (
      arith,
      c.deref.ensures.len,
      c.iter.ensures.bound,
      slot_count c.self.inside.slots.items c.self.invariant.0,
      ap (λ v. length v.extents) c.self.view_is,
    )
