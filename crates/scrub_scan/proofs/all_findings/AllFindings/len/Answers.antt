use Rattle.std.proofs.Common.{ap, arith, length}
use Rattle.scrub_scan.proofs.Slots.{slot_count}
use Rattle.scrub_scan.proofs.all_findings.AllFindings.len.Goals as goal

pub returns-clause-count : goal.returns-clause-count
returns-clause-count g c =
    omega (
      arith,
      c.len.ensures,
      slot_count c.self.inside.slots.items c.self.invariant.0,
      ap (λ v. length v.extents) c.self.view_is,
    )
