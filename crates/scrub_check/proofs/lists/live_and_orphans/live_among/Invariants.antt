use Rattle.std.proofs.Common.{◌≡◌, ◌++◌, take}
use Rattle.scrub_check.specs.steps.LiveAndOrphans.{orphans_by, AreLiveBy}
use Rattle.scrub_check.proofs.PartedItems.{HasPassedTo}
use Rattle.scrub_check.proofs.lists.live_and_orphans.live_among.Given as goal

-- the items so far are added, and the cursor has passed none of the starts of the others
abbrev pub invariant-loop-item : goal.invariant-loop-item
invariant-loop-item l = record {
  known : AreLiveBy l.fn.cursor.starts.now l.extent (take l.item-index l.items) l.live;
  left : l.orphans.items ≡ l.fn.orphans.items ++ orphans_by l.fn.cursor.starts.now l.extent (take l.item-index l.items);
  same : l.cursor.starts.now ≡ l.fn.cursor.starts.now;
  passed : HasPassedTo l.cursor l.extent l.items l.item-index;
}
