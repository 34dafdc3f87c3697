-- One more line: of the next record or of the next range.
use Rattle.std.proofs.Common.{arith, ◌-◌}
use Rattle.scrub_listings.proofs.SizesLists.{line_more, counts_more, all_merged, none_merged}
use Rattle.scrub_listings.proofs.sizes_listing.lines.lines_in_order.Goals as goal

pub loop-number-init : goal.loop-number-init
loop-number-init c = record {
  before = omega arith;
  records = omega arith;
  ranges = omega arith;
  merged = λ can. rw c.new-lines.ensures.items (none_merged c.args.records.now c.args.lost.now);
}

pub loop-number-preserved : goal.loop-number-preserved
loop-number-preserved c =
    let counts = counts_more c.args.records.now c.args.lost.now c.loop-number.records_before c.loop-number.number c.records_in-records_before.result c.next_line-line.result
    c.loop-number.invariant.before c.next_line-line.ensures c.records_in-records_before.ensures c.loop-number.invariant.records c.loop-number.invariant.ranges in
    record {
      before = counts.0;
      records = counts.1;
      ranges = counts.2;
      merged = line_more c.args.records.now c.args.lost.now c.loop-number.records_before c.loop-number.number c.loop-number.lines.items c.push.new.self.items c.next_line-line.result c.records_in-records_before.result
          c.loop-number.invariant.before c.next_line-line.ensures c.records_in-records_before.ensures c.in_ok-push.ensures.items c.loop-number.invariant.merged;
    }

pub returns : goal.returns
returns c = λ can.
    all_merged c.args.records.now c.args.lost.now c.loop-number.records_before (c.loop-number.number - c.loop-number.records_before) c.loop-number.lines.items
    (omega (arith, c.loop-number-test.false, c.loop-number.invariant.before, c.loop-number.invariant.records, c.loop-number.invariant.ranges))
    (omega (arith, c.loop-number-test.false, c.loop-number.invariant.before, c.loop-number.invariant.records, c.loop-number.invariant.ranges))
    (c.loop-number.invariant.merged can)
