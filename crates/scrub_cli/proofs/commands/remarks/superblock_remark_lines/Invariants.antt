-- The lines of the first remarks.
use Rattle.std.proofs.Common.{◌≡◌, take}
use Rattle.std.specs.Prelude.{string_bytes}
use Rattle.scrub_cli.specs.Remarks.{superblock_remark_lines}
use Rattle.scrub_cli.proofs.commands.remarks.superblock_remark_lines.Given as goal

abbrev pub invariant-loop-remark : goal.invariant-loop-remark
invariant-loop-remark l = string_bytes l.lines ≡ superblock_remark_lines (take l.remark-index l.remarks)
