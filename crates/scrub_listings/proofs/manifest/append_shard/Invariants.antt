-- The lines of the first locators.
use Rattle.std.proofs.Common.{◌≡◌, ◌++◌, take}
use Rattle.std.specs.Prelude.{string_bytes}
use Rattle.std.specs.List.{enumerate_from, flat_map}
use Rattle.scrub_listings.specs.steps.Manifest.{after_status_by}
use Rattle.scrub_listings.proofs.ShardLines.{line_of}
use Rattle.scrub_listings.proofs.manifest.append_shard.Given as goal

abbrev pub invariant-loop-number : goal.invariant-loop-number
invariant-loop-number g l =
    string_bytes l.text ≡ string_bytes l.fn.text ++ flat_map (line_of (after_status_by l.all.extents l.copies)) (take l.number (enumerate_from 0 l.own))
