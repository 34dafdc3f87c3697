-- The records below the next offset, and the end of the readable bytes there.
use Rattle.std.proofs.Common.{◌<◌, ◌*◌, length}
use Rattle.scrub_super.specs.Blocks.{byte_left}
use Rattle.scrub_super.specs.steps.BlocksRead.{IsReadableTo}
use Rattle.scrub_super.proofs.UnknownSizesSteps.{AreRecordsBelow}
use Rattle.scrub_super.proofs.unknown_sizes.search.find_records.Given as goal

abbrev pub invariant-loop-slot : goal.invariant-loop-slot
invariant-loop-slot l = record {
  known : l.slot * 64 < l.end → IsReadableTo (length l.bytes) l.lost (l.slot * 64) l.end;
  found : AreRecordsBelow (byte_left l.bytes l.lost) (l.slot * 64) l.found.items;
}
