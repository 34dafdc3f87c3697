-- The lines of the first remarks.
use Rattle.std.proofs.Common.{◌≡◌, ◌++◌, take}
use Rattle.std.specs.Prelude.{string_bytes}
use Rattle.scrub_cli.specs.Remarks.{remark_lines}
use Rattle.scrub_cli.proofs.commands.shards.append_lines.Given as goal

abbrev pub invariant-loop-remark : goal.invariant-loop-remark
invariant-loop-remark l = string_bytes l.lines ≡ string_bytes l.fn.lines ++ remark_lines (take l.remark-index l.remarks)
