-- The lines of the first locators.
use Rattle.std.proofs.Common.{◌≡◌, take}
use Rattle.std.specs.Prelude.{string_bytes}
use Rattle.std.specs.List.{flat_map}
use Rattle.scrub_listings.specs.Locators.{lines_by}
use Rattle.scrub_listings.proofs.listing.locator_lines.Given as goal

abbrev pub invariant-loop-one : goal.invariant-loop-one
invariant-loop-one l = string_bytes l.text ≡ flat_map (lines_by l.copies) (take l.one-index l.checked)
