-- The record with the sizes in the bytes, if there is room for it.
use Rattle.std.proofs.Common.{refl, length}
use Rattle.std.proofs.lemmas.Option.{none-some}
use Rattle.scrub_super.proofs.UnknownSizesSteps.{IsRoom, none_in_room, found_in_room, only_in_room}
use Rattle.scrub_super.proofs.unknown_sizes.search.record_from.Goals as goal
use Rattle.scrub_super.proofs.unknown_sizes.search.record_from.Goals.{After-room_at-room}

pub returns-in_err-geometry-clause-only : goal.returns-in_err-geometry-clause-only
returns-in_err-geometry-clause-only c = λ r t.
    absurd (none-some r.geometry (c.in_err-geometry.ensures r.geometry t.0 t.2.begins))

fits : (c : After-room_at-room) →
    IsRoom c.args.offset (length c.args.bytes.now) c.in_ok-geometry.geometry c.room_at-room.result
fits c =
    let room = c.room_at-room.ensures in
    record { within = room.within; page_bound = room.page_bound; inside = room.inside; all = room.all }

pub returns-in_err-head-clause-only : goal.returns-in_err-head-clause-only
returns-in_err-head-clause-only c = λ r t.
    absurd (none_in_room (fits (goal.at.returns-in_err-head-clause-only c).After-room_at-room) refl
    c.in_err-head.ensures.none (c.in_ok-geometry.ensures r.geometry t.0 t.2.begins) t)

pub returns-clause-found : goal.returns-clause-found
returns-clause-found c =
    found_in_room (fits (goal.at.returns-clause-found c).After-room_at-room) refl c.in_ok-head.ensures.found
    c.of.ensures

pub returns-clause-only : goal.returns-clause-only
returns-clause-only c = λ r t.
    only_in_room (fits (goal.at.returns-clause-only c).After-room_at-room) refl c.in_ok-head.ensures.found
    c.of.ensures (c.in_ok-geometry.ensures r.geometry t.0 t.2.begins) t
