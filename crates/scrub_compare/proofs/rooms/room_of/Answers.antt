-- The sorted numbers say whether the extent grows.
use Rattle.scrub_scan.specs.Scanned.{scanned}
use Rattle.scrub_compare.proofs.RoomsFound.{fitting_room, no_room}
use Rattle.scrub_compare.proofs.rooms.room_of.Goals as goal

pub returns-then-not-may_grow : goal.returns-then-not-may_grow
returns-then-not-may_grow g c checked are =
    no_room c.args.geometry checked c.args.barred.now (scanned c.args.found.now) are c.may_grow.result c.may_grow.ensures c.if-not-may_grow.true

pub returns : goal.returns
returns g c checked are =
    fitting_room c.args.geometry checked c.args.barred.now (scanned c.args.found.now) are c.may_grow.result c.may_grow.ensures c.if-not-may_grow.false
    c.fitting_place.result c.fitting_place.ensures
