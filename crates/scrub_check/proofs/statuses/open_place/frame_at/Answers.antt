use Rattle.scrub_check.proofs.OpenPlaces.{frame_seen}
use Rattle.scrub_check.proofs.statuses.open_place.frame_at.Goals as goal

pub returns : goal.returns
returns g c =
    frame_seen (g.D.PageSource.image c.args.scan.now.disk.now) c.args.scan.now.plan.now c.args.place c.pointer-pointer.result
    c.frame_stands.result
    c.pointer-pointer.ensures.value c.frame_stands.ensures.found c.frame_stands.ensures.none
