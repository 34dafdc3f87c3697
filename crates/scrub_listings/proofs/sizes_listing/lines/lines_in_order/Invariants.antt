-- The first records and the first ranges are in the list.
use Rattle.std.proofs.Common.{◌-◌, ◌≤◌, length}
use Rattle.scrub_listings.specs.steps.Sizes.{CanMerge}
use Rattle.scrub_listings.proofs.SizesLists.{AreMerged}
use Rattle.scrub_listings.proofs.sizes_listing.lines.lines_in_order.Given as goal

abbrev pub invariant-loop-number : goal.invariant-loop-number
invariant-loop-number l = record {
  before : l.records_before ≤ l.number;
  records : l.records_before ≤ length l.records;
  ranges : l.number - l.records_before ≤ length l.lost;
  merged : CanMerge l.records l.lost → AreMerged l.records l.lost l.records_before (l.number - l.records_before) l.lines.items;
}
