use Rattle.std.proofs.Common.{◌≡◌, ◌++◌, take}
use Rattle.std.specs.List.{filter, filter_map}
use Rattle.scrub_check.specs.Spares.{frame_of_item, is_wanted}
use Rattle.scrub_check.proofs.lists.spares.add_all_wanted.Given as goal

-- the wanted chunks of the items so far
abbrev pub invariant-loop-item : goal.invariant-loop-item
invariant-loop-item l = l.found.items ≡ l.fn.found.items ++ filter (is_wanted l.wanted) (filter_map (frame_of_item l.extent) (take l.item-index l.items))
