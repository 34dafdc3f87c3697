use Rattle.scrub_check.proofs.StatusByFrame.{starts_at, judged_by_item, none_begins}
use Rattle.scrub_check.proofs.statuses.status.status_by_item.Goals as goal

-- an item begins at its place, and decides the status
pub returns-in-Some : goal.returns-in-Some
returns-in-Some c image w can tiled =
    let l = c.args.locator.now in
    let items = c.args.items.now in
    judged_by_item image w l items c.in-Some.i c.index-items-i.result c.status_by_frame.result can tiled
    (starts_at items l.offset c.in-Some.i c.find_near.result c.in-Some.is c.find_near.ensures) c.index-items-i.is
    (rw c.frame_of_item-standing.ensures at c.status_by_frame.ensures)

-- none does
pub returns : goal.returns
returns c image w can tiled =
    none_begins image w c.args.locator.now c.args.items.now tiled (rw c.in_default.is at c.find_near.ensures)
