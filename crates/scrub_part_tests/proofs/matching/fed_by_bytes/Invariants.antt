-- The room left and the bytes fed make up the whole room.
use Rattle.std.proofs.Common.{◌≡◌, ◌+◌}
use Rattle.scrub_frame.specs.Matching.{left}
use Rattle.scrub_part_tests.proofs.matching.fed_by_bytes.Given as goal

abbrev pub invariant-loop-i : goal.invariant-loop-i
invariant-loop-i l = left l.matcher + l.i ≡ l.room
