use Rattle.std.proofs.Common.{◌≡◌, ◌<◌, ◌≤◌, ◌+◌, ℕ, length, slice_index}
use Rattle.sha_lanes.specs.Lanes.{lane, lane_count}
use Rattle.sha_lanes.proofs.Carrying.{IsStepped}
use Rattle.sha_lanes.proofs.lanes.Lanes.step.Given as goal

abbrev pub invariant-places : goal.invariant-places
invariant-places l = record {
  size : length l.places ≡ lane_count;
  within : (j : ℕ) → j < lane_count → slice_index l.places j + 64 ≤ length l.bytes;
  so_far : (j : ℕ) → j < l.l → 0 < slice_index l.self.left j → slice_index l.places j ≡ slice_index l.self.place j;
}

abbrev pub invariant-lanes : goal.invariant-lanes
invariant-lanes l = record {
  index : l.self.index ≡ l.fn.self.index;
  so_far : (j : ℕ) → j < l.l → IsStepped l.bytes l.fn.self l.self j;
  place : (j : ℕ) → l.l ≤ j → slice_index l.self.place j ≡ slice_index l.fn.self.place j;
  left : (j : ℕ) → l.l ≤ j → slice_index l.self.left j ≡ slice_index l.fn.self.left j;
  state : (j : ℕ) → l.l ≤ j → lane j l.self.state ≡ lane j l.initial.self.state;
}
