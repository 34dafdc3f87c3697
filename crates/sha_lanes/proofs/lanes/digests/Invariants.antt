use Rattle.std.proofs.Common.{◌≡◌, ◌<◌, ℕ, length, slice_index}
use Rattle.sha_lanes.specs.Lanes.{AreLanes}
use Rattle.sha_lanes.proofs.Placing.{IsPlaced}
use Rattle.sha_lanes.proofs.lanes.digests.Given as goal

abbrev pub invariant-spans : goal.invariant-spans
invariant-spans l = record {
  size : length l.digests.items ≡ length l.spans;
  lanes : AreLanes l.bytes l.spans l.lanes;
  placed : (k : ℕ) → k < l.k → IsPlaced l.bytes l.spans l.lanes.index l.digests.items 0 (slice_index l.order.items k);
}

abbrev pub invariant-rest : goal.invariant-rest
invariant-rest l = record {
  size : length l.digests.items ≡ length l.spans;
  lanes : AreLanes l.bytes l.spans l.lanes;
  placed : (i : ℕ) → i < length l.spans → IsPlaced l.bytes l.spans l.lanes.index l.digests.items l.l i;
}
