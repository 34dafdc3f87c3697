-- One mark was set.
use Rattle.scrub_disk.specs.Joined.{joined}
use Rattle.scrub_disk.proofs.HeldBytes.{marks}
use Rattle.scrub_disk.proofs.parts.PartedDiskMarkPages.mark_bad.Goals as goal

pub returns : goal.returns
returns c =
    let d = c.args.self.now in
    rw c.pages.ensures
    (marks d.geometry (joined d.geometry.page d.blocks.items) d.unreadable.items c.args.extent c.args.page d.each_page
    c.requires.in_extents c.requires.in_pages)
