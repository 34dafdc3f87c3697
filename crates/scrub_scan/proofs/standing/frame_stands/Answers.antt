-- There is no frame if the scanner finds none.
use Rattle.scrub_scan.specs.Extent.{NoFrameAt}
use Rattle.scrub_scan.specs.steps.Pages.{target_of}
use Rattle.scrub_scan.proofs.standing.frame_stands.Goals as goal

pub returns-clause-none : goal.returns-clause-none
returns-clause-none g c =
    let image = g.D.PageSource.image c.args.disk.now in
    let t = c.new-target.result in
    let none : NoFrameAt (target_of image t) c.args.offset =
    rw c.count_reads-counted.ensures.source at c.in-None.ensures.found in
    rw (← c.new-target.ensures.pointer)
    (rw c.new-target.ensures.extent at none)
