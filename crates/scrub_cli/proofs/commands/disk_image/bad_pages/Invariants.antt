-- The arguments so far name the pages so far.
use Rattle.std.proofs.Common.{take}
use Rattle.scrub_cli.specs.DiskImage.{NamePages}
use Rattle.scrub_cli.proofs.commands.disk_image.bad_pages.Given as goal

abbrev pub invariant-loop-arg : goal.invariant-loop-arg
invariant-loop-arg l = NamePages l.geometry (take l.arg-index l.args) l.pages.items
