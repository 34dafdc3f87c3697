-- The lines of the locators to the first chunks.
use Rattle.std.proofs.Common.{◌≡◌, ◌++◌, List, take}
use Rattle.std.specs.Prelude.{string_bytes}
use Rattle.std.specs.List.{flat_map}
use Rattle.scrub_check.specs.declared.statuses.checked.Checked.{Checked}
use Rattle.scrub_reclaim.specs.steps.Moves.{PointAlike, kept_lines}
use Rattle.scrub_reclaim.proofs.reclaiming.append_kept.Given as goal

abbrev pub invariant-loop-chunk : goal.invariant-loop-chunk
invariant-loop-chunk l = (checked : List Checked) → PointAlike checked l.sorted →
    string_bytes l.text ≡ string_bytes l.fn.text ++ flat_map (kept_lines checked l.extent) (take l.chunk-index l.keep)
