use Rattle.std.proofs.Common.{◌≡◌, ◌+◌, slice_index}
use Rattle.sha_lanes.specs.Lanes.{AreLanes}
use Rattle.sha_lanes.proofs.lanes.Lanes.end.Given as goal

abbrev pub invariant-blocks-2 : goal.invariant-blocks-2
invariant-blocks-2 l = record {
  lanes : AreLanes l.bytes l.spans l.self;
  index : l.self.index ≡ l.fn.self.index;
  left : slice_index l.self.left l.l + l.counter ≡ l.end;
}
