use Rattle.std.proofs.Common.{◌≡◌, ◌+◌, ◌≤◌, ◌++◌, vec_len}
use Rattle.std.specs.Vec.{vec_capacity}
use Rattle.std.specs.Vec.Iter.{into_iter_items, into_iter_len}
use Rattle.scrub_book.specs.Extents.{extents_in}
use Rattle.scrub_book.proofs.pool_core.arrive.Given as goal

-- what has arrived, followed by what is still to come, is the final list, and there is room for it
abbrev pub invariant-loop-found : goal.invariant-loop-found
invariant-loop-found g l = record {
  arrived : l.arrived.items ++ into_iter_items l.found-iterator ≡ l.initial.arrived.items ++ l.fn.results.items;
  numbers : l.numbers.items ++ extents_in (into_iter_items l.found-iterator) ≡ l.initial.numbers.items ++ extents_in l.fn.results.items;
  room : vec_len l.arrived + into_iter_len l.found-iterator ≤ vec_capacity l.arrived;
  room_for_numbers : vec_len l.numbers + into_iter_len l.found-iterator ≤ vec_capacity l.numbers;
  capacity : vec_capacity l.arrived ≡ vec_capacity l.initial.arrived;
  capacity_for_numbers : vec_capacity l.numbers ≡ vec_capacity l.initial.numbers;
}
