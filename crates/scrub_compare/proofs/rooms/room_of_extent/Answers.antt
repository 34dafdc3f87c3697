-- What was scanned decides, if the extent was.
use Rattle.scrub_scan.specs.Scanned.{scanned}
use Rattle.scrub_check.proofs.Sizes.{not_scanned}
use Rattle.scrub_compare.proofs.RoomsFound.{room_found, room_lost}
use Rattle.scrub_compare.proofs.rooms.room_of_extent.Goals as goal

pub returns-in-Some : goal.returns-in-Some
returns-in-Some g c checked are =
    room_found c.args.geometry c.args.all.now.extents checked c.args.extent (scanned c.in-Some.found.now) c.room_of.result c.in-Some.ensures.found
    (c.room_of.ensures checked are)

pub returns-in-None : goal.returns-in-None
returns-in-None g c checked are =
    room_lost c.args.geometry c.args.all.now.extents checked c.args.extent
    (not_scanned c.args.all.now.extents c.args.extent c.in-None.ensures.none)
