-- The lines so far and those of what is left are those of all.
use Rattle.std.proofs.Common.{◌≡◌, ◌++◌, List}
use Rattle.std.specs.Prelude.{string_bytes}
use Rattle.std.specs.List.{flat_map}
use Rattle.scrub_check.specs.declared.statuses.checked.Checked.{Checked}
use Rattle.scrub_loose.specs.Loose.{LooseValue}
use Rattle.scrub_reclaim.specs.Room.{room_where}
use Rattle.scrub_reclaim.specs.steps.KeptCopies.{AreShut}
use Rattle.scrub_reclaim.proofs.room.append_rooms_where.Given as goal

abbrev pub invariant-loop-found : goal.invariant-loop-found
invariant-loop-found g l = (loose : LooseValue) (checked : List Checked) → AreShut l.all.extents loose checked l.barred l.closed →
    string_bytes l.text ++ flat_map (room_where l.is_listed l.geometry l.all.extents loose checked l.listed) l.found-iterator
    ≡ string_bytes l.fn.text ++ flat_map (room_where l.is_listed l.geometry l.all.extents loose checked l.listed) l.all.extents
