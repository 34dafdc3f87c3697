-- So far the text has the lines of the first items.
use Rattle.std.proofs.Common.{◌≡◌, take}
use Rattle.scrub_cli.specs.Lines.{lines_of}
use Rattle.scrub_cli.proofs.commands.answer.lines.Given as goal

abbrev pub invariant-loop-item : goal.invariant-loop-item
invariant-loop-item l = l.text.items ≡ lines_of (take l.item-index l.items)
