-- The lines of the first locators.
use Rattle.std.proofs.Common.{◌≡◌, ◌++◌, take}
use Rattle.std.specs.Prelude.{string_bytes}
use Rattle.std.specs.List.{flat_map}
use Rattle.scrub_reclaim.specs.steps.Moves.{move_text}
use Rattle.scrub_reclaim.proofs.reclaiming.append_moves.Given as goal

abbrev pub invariant-loop-one : goal.invariant-loop-one
invariant-loop-one l = string_bytes l.text ≡ string_bytes l.fn.text ++ flat_map (λ one. move_text l.bytes one.now) (take l.one-index l.some)
