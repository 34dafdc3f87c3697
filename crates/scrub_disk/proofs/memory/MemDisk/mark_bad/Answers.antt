-- One mark was set.
use Rattle.scrub_disk.proofs.HeldBytes.{marks}
use Rattle.scrub_disk.proofs.memory.MemDisk.mark_bad.Goals as goal

pub returns : goal.returns
returns c =
    rw c.pages.ensures
    (marks c.args.self.now.geometry c.args.self.now.bytes.items c.args.self.now.unreadable.items c.args.extent c.args.page
    c.args.self.now.each_page c.requires.in_extents c.requires.in_pages)
