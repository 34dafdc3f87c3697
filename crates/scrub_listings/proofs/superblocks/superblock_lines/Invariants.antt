-- The lines of the first pages.
use Rattle.std.proofs.Common.{◌≡◌, string_bytes, take}
use Rattle.std.specs.List.{enumerate_from, flat_map}
use Rattle.scrub_listings.specs.Superblocks.{superblock_line}
use Rattle.scrub_listings.proofs.superblocks.superblock_lines.Given as goal

abbrev pub invariant-loop-page : goal.invariant-loop-page
invariant-loop-page l = string_bytes l.text ≡ flat_map (λ x. superblock_line x.0 x.1) (take l.page (enumerate_from 0 l.pages))
