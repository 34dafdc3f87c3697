-- The first extents.
use Rattle.std.proofs.Common.{◌≡◌, ◌++◌, take}
use Rattle.std.specs.Prelude.{string_bytes}
use Rattle.std.specs.Fmt.{decimal}
use Rattle.std.specs.List.{flat_map}
use Rattle.scrub_scan.specs.Line.{spaced}
use Rattle.scrub_listings.proofs.manifest.append_extents.Given as goal

abbrev pub invariant-loop-extent : goal.invariant-loop-extent
invariant-loop-extent l = string_bytes l.text ≡ string_bytes l.fn.text ++ flat_map (λ e. spaced (decimal e)) (take l.extent-index l.retired)
