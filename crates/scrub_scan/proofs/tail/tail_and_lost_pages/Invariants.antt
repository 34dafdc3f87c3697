-- The pages so far are known.
use Rattle.std.proofs.Common.{◌≡◌, ◌≤◌, ◌+◌, ◌*◌, ◌/◌, max}
use Rattle.scrub_disk.specs.Image.{image_byte, extent_bytes}
use Rattle.scrub_scan.specs.Findings.{TailTo, unreadable_below}
use Rattle.scrub_scan.specs.steps.Pages.{HoldBoth, HasRead}
use Rattle.scrub_scan.proofs.tail.tail_and_lost_pages.Given as goal

abbrev pub invariant-loop-page : goal.invariant-loop-page
invariant-loop-page g l = record {
  held : HoldBoth (g.D.PageSource.image l.disk) l.target.extent l.pages;
  read : HasRead l.pages l.page;
  bad_pages : l.bad_pages.items ≡ unreadable_below (g.D.PageSource.image l.disk) l.target.extent l.page;
  tail : TailTo (image_byte (g.D.PageSource.image l.disk) l.target.extent) l.target.pointer (max l.target.pointer (l.page * l.target.page)) (extent_bytes (g.D.PageSource.image l.disk).geometry) l.tail.count l.tail.first;
  asked : l.pages.asked + l.target.pointer / l.target.page ≤ l.fn.pages.asked + l.page;
}
