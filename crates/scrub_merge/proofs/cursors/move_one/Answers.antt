-- The heap has no entry of the run, and then the entry under its cursor.
use Rattle.list_facts.proofs.Options.{OnOk-both}
use Rattle.scrub_merge.proofs.Heaps.{pushed_on}
use Rattle.scrub_merge.proofs.cursors.move_one.Goals as goal

pub returns-clause-heap : goal.returns-clause-heap
returns-clause-heap c = OnOk-both c.push_cursor.result c.push_cursor.ensures.pushed c.push_cursor.ensures.order
    (pushed_on c.args.runs.now c.args.places.now c.args.number c.requires.count c.requires.within c.index-runs-number.is c.requires.heap)
