-- This many locators were read, and the bytes so far spell them.
use Rattle.std.proofs.Common.{◌≡◌, ◌*◌, length, take, All}
use Rattle.std.specs.List.{flat_map}
use Rattle.scrub_frame.specs.Locator.{locator_bytes, IsLocator}
use Rattle.scrub_frame.proofs.locator.read_locators.Given as goal

abbrev pub invariant-loop-i : goal.invariant-loop-i
invariant-loop-i l = record {
  count : length l.locators.items ≡ l.i;
  fit : All IsLocator l.locators.items;
  spelled : flat_map locator_bytes l.locators.items ≡ take (60 * l.i) l.bytes;
}
