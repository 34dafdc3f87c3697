-- The lines of the first locators.
use Rattle.std.proofs.Common.{◌≡◌, ◌++◌, take}
use Rattle.std.specs.Prelude.{string_bytes}
use Rattle.std.specs.List.{flat_map}
use Rattle.scrub_compare.specs.Compare.{named_line}
use Rattle.scrub_compare.proofs.named.append_named.Given as goal

abbrev pub invariant-loop-one : goal.invariant-loop-one
invariant-loop-one l = string_bytes l.text ≡ string_bytes l.fn.text ++ flat_map (named_line l.resets) (take l.one-index l.checked)
