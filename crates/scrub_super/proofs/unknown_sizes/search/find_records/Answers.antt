-- One more offset, at which a record may begin.
use Rattle.std.proofs.Common.{arith, refl}
use Rattle.scrub_super.proofs.UnknownSizesSteps.{slot_more, all_slots, end_later}
use Rattle.scrub_super.proofs.unknown_sizes.search.find_records.Goals as goal

pub loop-slot-preserved : goal.loop-slot-preserved
loop-slot-preserved c = record {
  known = λ further. end_later c.readable_end-end.ensures (omega arith) further;
  found = rw c.in_ok-add_record.ensures
      (slot_more c.args.bytes.now c.args.lost.now c.loop-slot.slot refl refl c.readable_end-end.ensures
      c.record_from.ensures.found c.record_from.ensures.only c.loop-slot.invariant.found);
}

pub returns : goal.returns
returns c =
    all_slots c.args.bytes.now c.args.lost.now
    (omega (arith, c.div_ceil-slot-end.ensures, c.loop-slot-test.false)) c.loop-slot.invariant.found
