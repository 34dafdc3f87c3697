-- The planned extents are those of the plan without resets.
use Rattle.std.proofs.Common.{None, ◌∙◌}
use Rattle.scrub_found.proofs.GivenPlans.{geometry_from}
use Rattle.scrub_found.proofs.ResetPlans.{planned_same, whole_but}
use Rattle.scrub_found.proofs.scanning.scan_as_reset.Goals as goal

pub rescan-requires-clause-geometry : goal.rescan-requires-clause-geometry
rescan-requires-clause-geometry g c κs within =
    geometry_from None c.args.resets.now (g.D.PageSource.image c.args.disk.now) c.args.scan.chosen c.in_ok-plan.plan
    c.requires.scan.chosen c.in_ok-plan.ensures

pub rescan-requires-clause-extents : goal.rescan-requires-clause-extents
rescan-requires-clause-extents g c κs within =
    c.requires.scan.scanned.extents
    ∙ planned_same c.args.resets.now c.args.scan.chosen c.args.scan.plan c.in_ok-plan.plan c.requires.scan.planned c.in_ok-plan.ensures

pub returns-clause-scan : goal.returns-clause-scan
returns-clause-scan g c = record {
  chosen = c.requires.scan.chosen;
  planned = c.in_ok-plan.ensures;
  scanned = c.in_ok-all.ensures.findings;
  whole =
      whole_but c.args.resets.now c.args.scan.chosen c.in_ok-plan.plan (g.D.PageSource.image c.args.disk.now) c.in_ok-all.all.extents
      c.requires.scan.chosen c.in_ok-plan.ensures c.in_ok-all.ensures.findings;
}
