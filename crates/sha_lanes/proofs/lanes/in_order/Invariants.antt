use Rattle.std.proofs.Common.{◌≡◌, ◌<◌, ℕ, length, get_or}
use Rattle.sha_lanes.proofs.lanes.in_order.Given as goal

abbrev pub invariant-numbers : goal.invariant-numbers
invariant-numbers l = record {
  size : length l.order.items ≡ l.i;
  each : (j d : ℕ) → j < l.i → get_or l.order.items j d ≡ j;
}
