-- The sorted numbers say whether the extent has a line.
use Rattle.std.proofs.Common.{◌≡◌, ◌++◌, ℕ, List, OnOk, subst}
use Rattle.std.specs.Prelude.{string_bytes}
use Rattle.scrub_scan.specs.Scanned.{scanned}
use Rattle.scrub_reclaim.proofs.RoomLines.{closed, open_line}
use Rattle.scrub_reclaim.proofs.room.append_room_if.Goals as goal

pub returns-then-not-may_take : goal.returns-then-not-may_take
returns-then-not-may_take g c extents loose checked are =
    closed c.args.is_listed c.args.geometry extents loose checked c.args.barred.now c.args.closed.now (scanned c.args.found.now) (string_bytes c.args.text.now) c.may_take.result are
    c.may_take.ensures c.if-not-may_take.true

pub returns : goal.returns
returns g c extents loose checked are =
    subst (λ (part : List ℕ). OnOk c.append_room.result (string_bytes c.append_room.new.text ≡ string_bytes c.args.text.now ++ part))
    (open_line c.args.is_listed c.args.geometry extents loose checked c.args.barred.now c.args.closed.now (scanned c.args.found.now) c.may_take.result are
    c.may_take.ensures c.if-not-may_take.false) c.append_room.ensures
