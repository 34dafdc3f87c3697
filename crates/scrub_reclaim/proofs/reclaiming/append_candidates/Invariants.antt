-- The lines of the first candidates.
use Rattle.std.proofs.Common.{◌≡◌, ◌++◌, take}
use Rattle.std.specs.Prelude.{string_bytes}
use Rattle.std.specs.List.{flat_map}
use Rattle.scrub_reclaim.specs.Reclaimable.{candidate_lines}
use Rattle.scrub_reclaim.specs.steps.Moves.{named_in}
use Rattle.scrub_reclaim.proofs.reclaiming.append_candidates.Given as goal

abbrev pub invariant-loop-candidate : goal.invariant-loop-candidate
invariant-loop-candidate l = string_bytes l.text ≡ string_bytes l.fn.text ++ flat_map (candidate_lines (named_in l.listed l.checked)) (take l.candidate-index l.candidates)
