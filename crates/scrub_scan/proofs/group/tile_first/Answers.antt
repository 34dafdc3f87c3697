-- Nothing of the extent is tiled at first.
use Rattle.scrub_scan.specs.steps.Pages.{target_of}
use Rattle.scrub_scan.proofs.group.tile_first.Goals as goal

pub tile_on-requires-clause-settled : goal.tile_on-requires-clause-settled
tile_on-requires-clause-settled g c = λ κs within.
    let has = c.requires.has in
    c.clear.ensures (target_of (g.D.PageSource.image c.args.disk.now) c.new-target.result) c.args.workspace.now.payloads has.0 has.1
    (c.in-Some.ensures has.0 has.1)
