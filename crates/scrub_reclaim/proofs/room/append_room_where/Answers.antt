-- The sorted numbers say whether the extent is passed over.
use Rattle.std.proofs.Common.{◌≡◌, ◌++◌, ◌∙◌, ℕ, List, OnOk, ap, subst}
use Rattle.std.specs.Prelude.{string_bytes}
use Rattle.scrub_scan.specs.Scanned.{scanned}
use Rattle.scrub_reclaim.specs.Room.{is_listed_as}
use Rattle.scrub_reclaim.proofs.RoomLines.{passed_over, taken_in}
use Rattle.scrub_reclaim.proofs.room.append_room_where.Goals as goal

pub returns-then-not-is_listed_as : goal.returns-then-not-is_listed_as
returns-then-not-is_listed_as g c extents loose checked are =
    passed_over c.args.is_listed c.args.geometry extents loose checked c.args.listed.now (scanned c.args.found.now) c.is_listed_as.result (string_bytes c.args.text.now)
    (c.is_listed_as.ensures ∙ ap (is_listed_as c.args.is_listed c.args.listed.now) c.extent.ensures) c.if-not-is_listed_as.true

pub returns : goal.returns
returns g c extents loose checked are =
    subst (λ (part : List ℕ). OnOk c.append_room_if.result (string_bytes c.append_room_if.new.text ≡ string_bytes c.args.text.now ++ part))
    (taken_in c.args.is_listed c.args.geometry extents loose checked c.args.listed.now (scanned c.args.found.now) c.is_listed_as.result
    (c.is_listed_as.ensures ∙ ap (is_listed_as c.args.is_listed c.args.listed.now) c.extent.ensures) c.if-not-is_listed_as.false)
    (c.append_room_if.ensures extents loose checked are)
