-- The locators so far are written and fit, and there is room for the others.
use Rattle.std.proofs.Common.{◌≡◌, ◌+◌, ◌*◌, ◌-◌, ◌≤◌, ◌<◌, ◌++◌, ℕ, length, take, get_or, vec_len, vec_capacity}
use Rattle.std.specs.List.{flat_map}
use Rattle.scrub_frame.specs.declared.locator.Locator.{Locator}
use Rattle.scrub_frame.specs.Locator.{locator_bytes, IsLocator}
use Rattle.scrub_frame.proofs.locator.append_locators.Given as goal

abbrev pub invariant-loop-locator : goal.invariant-loop-locator
invariant-loop-locator l = record {
  fit : (k : ℕ) (d : Locator) → k < l.locator-index → IsLocator (get_or l.locators k d);
  written : l.out.items ≡ l.initial.out.items ++ flat_map locator_bytes (take l.locator-index l.locators);
  room : vec_len l.out + 60 * (length l.locators - l.locator-index) ≤ vec_capacity l.out;
  grown : vec_capacity l.initial.out ≤ vec_capacity l.out;
}
