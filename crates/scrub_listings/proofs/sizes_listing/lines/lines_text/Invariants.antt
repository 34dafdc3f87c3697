-- The first lines.
use Rattle.std.proofs.Common.{◌≡◌, take}
use Rattle.std.specs.Prelude.{string_bytes}
use Rattle.scrub_listings.specs.Sizes.{size_lines}
use Rattle.scrub_listings.proofs.sizes_listing.lines.lines_text.Given as goal

abbrev pub invariant-loop-line : goal.invariant-loop-line
invariant-loop-line l = string_bytes l.text ≡ size_lines (take l.line-index l.lines)
