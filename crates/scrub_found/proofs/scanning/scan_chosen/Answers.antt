-- The plan follows from the choice, and is of the disk's sizes.
use Rattle.std.proofs.Common.{None}
use Rattle.scrub_found.proofs.GivenPlans.{geometry_from}
use Rattle.scrub_found.proofs.scanning.scan_chosen.Goals as goal

pub scan_planned-requires-clause-geometry : goal.scan_planned-requires-clause-geometry
scan_planned-requires-clause-geometry g c κs within =
    geometry_from None c.args.resets.now (g.D.PageSource.image c.args.disk.now) c.args.chosen c.in_ok-plan.plan c.requires.choice
    c.in_ok-plan.ensures

pub returns-clause-scan : goal.returns-clause-scan
returns-clause-scan g c = c.scan_planned.ensures.scan None c.args.resets.now c.requires.choice c.in_ok-plan.ensures

pub returns-clause-takings : goal.returns-clause-takings
returns-clause-takings g c = c.scan_planned.ensures.takings None c.args.resets.now c.requires.choice c.in_ok-plan.ensures
